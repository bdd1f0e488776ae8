-- Whatever happens to the source between two commands of the run keeps the invariant.
-- Assumes nothing.
use Rattle.std.specs.Prelude.{ℕ, ◌*◌, ◌≡◌, Bool, false, eqb}
use Rattle.std.proofs.Math.Path.{refl, sym, ap}
use Rattle.std.proofs.Common.{◌∙◌, add_assoc, arith}
use mathlib.Core.List.{List, [], ◌∷◌}
use Rattle.std.proofs.Math.Bool.{true}
use Rattle.std.proofs.Math.Nat.{mod-add-mod}
use Rattle.std.proofs.Math.ListN.{length}
use Rattle.std.proofs.Math.Seq.{ext_get_or}
use Rattle.choices.specs.Choice.{pick_cases}
use Rattle.choices.specs.Tests.{clash, same_or_not}
use Rattle.copies.specs.Parts.{zeros}
use Rattle.pages.specs.Pages.{block}
use Rattle.plans.specs.declared.Plan.{Plan}
use Rattle.phases.specs.declared.Phase.{Phase}
use Rattle.phases.specs.declared.Phase.TheVariants.{First, Chunk, Close, Ack, Ended}
use Rattle.phases.specs.Phases.{ended_by}
use Rattle.plans.specs.Plans.{area_last, area_bytes}
use Rattle.sources.specs.Source.{Source, Stand, happens, happen}
use Rattle.sources.specs.Keeps.{Keeps}
use Rattle.sources.specs.Inv.{Common, Still, SameLast, Opened, Mid, Had, At, Inv}

-- an empty page has no blocks, whatever area is wanted
no_blocks : (p : Plan) → area_last p (zeros 4) ≡ 0
no_blocks p =
    pick_cases (λ (n : ℕ). n ≡ 0) (eqb p.area 1) (λ e. refl)
    (λ e. pick_cases (λ (n : ℕ). n ≡ 0) (eqb p.area 2) (λ f. refl)
    (λ f. pick_cases (λ (n : ℕ). n ≡ 0) (eqb p.area 3) (λ g. refl) (λ g. refl)))

module _ (D : Source) (p : Plan) (K : Keeps D p) (e : D.Event) (s : Stand D) where
  common : Common D p K s → Common D p K (happens D e s)
  unfolding happens
  common c = record {
    plan = c.plan;
    size = c.size;
    house = c.house;
    reached = c.reached;
    counted = c.counted;
    tries = omega (arith, c.tries);
  }

  opened : Opened D p K s → Opened D p K (happens D e s)
  unfolding happens
  opened o = record {
    said = o.said;
    generation = o.generation;
    last = o.last;
    good = o.good;
    here = K.act_good e s.source o.here;
    live = o.live;
    gens = K.moves e s.source o.here ∙ rw o.gens (mod-add-mod _ _ _ ∙ rw add_assoc);
    stays = λ none whole live.
        let q = K.quiet e s.source o.here (omega (arith, none)) (omega (arith, whole)) live in
        q.1 ∙ o.stays (omega (arith, none)) (omega (arith, whole)) q.0;
    begun = o.begun;
  }

  -- a page of no blocks that was dropped is the same as before
  emptied : (done : ℕ) (served : Bool) → Mid D p K s done served → (K.shows (D.act e s.source)).last ≡ zeros 4 → SameLast D p K (happens D e s)
      → Still D p K (happens D e s) done served
  unfolding happens
  emptied done served m none same =
      let here = K.act_good e s.source m.opened.here in
      let none' : area_last p s.collection.attempt.last ≡ 0 = ap (area_last p) (sym same ∙ none) ∙ no_blocks p in
      let w = m.some none' in
      let one : length (K.area (D.act e s.source)) ≡ 0 = K.long (D.act e s.source) here ∙ ap (area_bytes p) none ∙ ap (λ (n : ℕ). block * n) (no_blocks p) in
      let two : length (K.area s.checked) ≡ 0 = K.long s.checked m.opened.good ∙ ap (area_bytes p) (sym m.opened.last) ∙ ap (λ (n : ℕ). block * n) none' in
      record { area = ext_get_or 0 _ _ (one ∙ sym two) (λ i l. absurd (omega (arith, one))); whole = w.1; filled = rw w.0 }

  mid : (done : ℕ) (served : Bool) → Mid D p K s done served → Mid D p K (happens D e s) done served
  unfolding happens
  mid done served m = record {
    opened = opened m.opened;
    kept = λ none live same.
        same_or_not (D.drops e s.source) 0
        (λ z.
        let q = K.quiet e s.source m.opened.here (omega (arith, none)) z live in
        let k = m.kept (omega (arith, none)) q.0 (sym q.1 ∙ same) in
        record { area = q.2 ∙ k.area; whole = k.whole; filled = k.filled })
        (λ z. emptied done served m (K.empties e s.source m.opened.here (omega (arith, z))) same);
    some = m.some;
  }

  had : Had D p K s → Had D p K (happens D e s)
  unfolding happens
  had h = record { opened = opened h.opened; filled = h.filled }

  by_phase : (f : Phase) → ended_by f ≡ false → At D p K f s → At D p K f (happens D e s)
  unfolding happens
  by_phase First g a = a
  by_phase (Chunk at) g a = mid _ true a
  by_phase (Close after) g a = mid _ _ a
  by_phase Ack g a = had a
  by_phase Ended g a = clash {t = true} refl g

  pub happens_inv : ended_by s.collection.phase ≡ false → Inv D p K s → Inv D p K (happens D e s)
  unfolding happens
  happens_inv g i = record { common = common i.common; now = by_phase s.collection.phase g i.now }

module _ (D : Source) (p : Plan) (K : Keeps D p) where
  -- and a list of such things
  pub happen_inv : (es : List D.Event) (s : Stand D) → ended_by s.collection.phase ≡ false → Inv D p K s → Inv D p K (happen D es s)
  unfolding happen happens
  happen_inv [] s g i = i
  happen_inv (e ∷ es) s g i = happen_inv es (happens D e s) g (happens_inv D p K e s g i)
