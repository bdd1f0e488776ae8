-- A chunk and the acknowledgement keep the invariant.
-- Assumes nothing.
use Prim.Native.Nat.{ℕ, ◌+◌, ◌-◌, ◌*◌, ◌%◌, ◌≤◌, ◌<◌}
use Rattle.std.specs.Prelude.{◌≡◌, not, drop, eqb}
use Rattle.std.proofs.Math.Path.{refl, sym, ap, subst}
use Rattle.std.proofs.Common.{◌∙◌, length-append, length-take, take_at, take-add}
use mathlib.Core.List.{List, [], ◌++◌, append_assoc}
use Rattle.std.proofs.Math.Bool.{Bool, true, false}
use native.Mathlib.Omega.{arith}
use Rattle.std.proofs.Math.ListN.{length, take, length-drop}
use borrow.Author.Tests.{eq-eqb, ne_eqb, eqb-true, eqb-false}
use Rattle.choices.specs.Choice.{pick}
use Rattle.choices.specs.Tests.{by_test, clash, same_or_not}
use Rattle.copies.specs.Parts.{zeros, put}
use Rattle.answers.specs.Answers.{success}
use Rattle.pages.specs.Pages.{block}
use Rattle.plans.specs.declared.Plan.{Plan}
use Rattle.phases.specs.declared.Phase.{Phase}
use Rattle.phases.specs.declared.Phase.TheVariants.{Chunk, Close, Ack}
use Rattle.phases.specs.Phases.{judged_by}
use Rattle.phases.specs.Chunks.{chunk_inside, chunk_full, chunk_short}
use Rattle.plans.specs.Plans.{area_last, area_bytes, chunk_of, lead_of}
use Rattle.phases.specs.Asked.{chunk_in, chunk_blocks, expected_by}
use Rattle.completions.specs.Completions.{look_by}
use Rattle.judgement.specs.Judgement.{newer_than}
use Rattle.turns.specs.Turns.{following_of}
use Rattle.collection.specs.Collection.{awaited_of, expected_of, look_of, refusal_of, sends, ends, copy_after}
use Rattle.collection.specs.Steps.{in_phase, ended_in, chunk_good, chunk_refused, ack_done}
use Rattle.endings.specs.declared.Ending.TheVariants.{Success}
use Rattle.collection.specs.declared.Collection.{Collection}
use Rattle.collection.specs.declared.Next.TheVariants.{Send}
use Rattle.collection.specs.Told.{Stepped}
use Rattle.collection.specs.Copied.{chunk_copy, ending_copy, sending_copy}
use Rattle.runs.specs.Run.{given}
use Rattle.sources.specs.Source.{Source, ours, Done, heard, Stand, for_lent, fine, data_of, stepped, hears}
use Rattle.sources.specs.Keeps.{Keeps, Header}
use Rattle.sources.specs.Promise.{noticed, succeeded}
use Rattle.sources.specs.Inv.{Common, Opened, Mid, Had, Inv}
use Rattle.sources.specs.Heard.{takes, at_phase, step, copied, finish, ended}

-- what is put after a part that is right is right up to its end
put_grows : (copy area b : List ℕ) (i n : ℕ) → i + length b ≤ length copy → length b ≡ n → take i copy ≡ take i area → b ≡ take n (drop i area)
    → take (i + n) (put copy i b) ≡ take (i + n) area
put_grows copy area b i n room l same e =
    let long : length (take i copy ++ b) ≡ i + n = simp (length-append, length-take) (omega arith) in
    ap (λ (x : List ℕ). take (i + n) x) (sym (append_assoc (take i copy) b (drop (i + length b) copy)))
    ∙ take_at (take i copy ++ b) (drop (i + length b) copy) (i + n) long
    ∙ ap (λ (x : List ℕ). x ++ b) same
    ∙ ap (λ (x : List ℕ). take i area ++ x) e
    ∙ sym (take-add i n area)

-- the blocks that are done after a chunk, by whether another one follows
full_done : (c at b : ℕ) → 1 ≤ at → at ≤ b → at + c ≤ b → at - 1 + chunk_blocks c at b ≡ at + c - 1
full_done c at b l h f = let e = chunk_full c at b h (omega arith) in omega arith

short_done : (c at b : ℕ) → 1 ≤ at → at ≤ b → b < at + c → at - 1 + chunk_blocks c at b ≡ b
short_done c at b l h f = let e = chunk_short c at b h (omega arith) in omega arith

-- two tests of equality that hold in the same cases are one test
same_test : (a b c d : ℕ) → (a ≡ b → c ≡ d) → (c ≡ d → a ≡ b) → eqb a b ≡ eqb c d
same_test a b c d f g =
    by_test (eqb a b) (λ t. t ∙ sym (eq-eqb c d (f (eqb-true a b t)))) (λ t. t ∙ sym (ne_eqb c d (λ e. eqb-false a b t (g e))))

-- another generation is seen just where captures moved it, and did not bring it round
newer_is : (seen old since : ℕ) → old < 256 → seen ≡ (old + since) % 256 → not (eqb seen old) ≡ noticed since
newer_is seen old since low e = ap not (same_test seen old (since % 256) 0 (λ same. omega arith) (λ round. omega arith))

module _ (D : Source) (p : Plan) (K : Keeps D p) (s : Stand D) (o : Done D.State) (c : Common D p K s) where
  abbrev state : Collection
  state = s.collection

  -- ---- a chunk

  module _ (at : ℕ) (f : state.phase ≡ Chunk at) (m : Mid D p K s (at - 1) true) (same : o.source ≡ s.source) where
    abbrev last : ℕ
    last = area_last p state.attempt.last

    abbrev n : ℕ
    n = chunk_blocks (chunk_of p) at last

    -- the stand after it, whose last header is the one before
    abbrev plain : Stepped → List ℕ → Stand D
    plain x y = record {
      collection = x.state;
      said = x.next;
      copy = y;
      source = s.source;
      sent = (stepped D s o x y).sent;
      headers = s.headers;
      checked = s.checked;
      counts = heard false (for_lent o.answer) s.counts;
    }

    plain_is : (x : Stepped) (y : List ℕ) → plain x y ≡ stepped D s o x y
    plain_is x y = rw (f, same)

    due : expected_of state ≡ expected_by (Chunk at) p state.attempt.last
    unfolding expected_of
    due = rw (f, c.plan)

    room : length s.copy ≡ state.plan.room
    room = c.size ∙ ap (λ (q : Plan). q.room) (sym c.plan)

    -- what the attempt's header says stays said
    still_opened : (x : Stepped) (y : List ℕ) → x.next ≡ Send (awaited_of x.state) → x.state.attempt.generation ≡ state.attempt.generation → x.state.attempt.last ≡ state.attempt.last
        → Opened D p K (plain x y)
    still_opened x y e g l =
        let op = m.opened in
        record {
          said = e;
          generation = g ∙ op.generation;
          last = l ∙ op.last;
          good = op.good;
          here = op.here;
          live = op.live;
          gens = op.gens ∙ ap (λ (i : ℕ). (i + s.counts.captures) % 256) (sym g);
          stays = λ none whole live. op.stays none whole live ∙ sym l;
          begun = omega (arith, op.begun, length-append s.sent (given x.next));
        }

    served : o.answer ≡ success → length o.bytes ≡ expected_by (Chunk at) p state.attempt.last
        → ((K.shows s.source).last ≡ state.attempt.last → chunk_in p o.bytes ≡ take (block * n) (drop (block * (at - 1)) (K.area s.source)))
        → Inv D p K (hears ours D s o)
    unfolding awaited_of
    served a l right =
        let z : fine o ≡ true = eq-eqb o.answer success a in
        let t : refusal_of state true (length o.bytes) (length s.copy) ≡ success =
        takes state true o.bytes (length s.copy) c.house (rw f) room (l ∙ sym due) in
        let i = chunk_inside p state.attempt.last at (rw (f, c.plan) at c.house.inside) in
        let x : Stepped = sends (in_phase state (following_of state.plan state.attempt.last at)) in
        let y : List ℕ = put s.copy (block * (at - 1)) (chunk_in p o.bytes) in
        let cc : (block * (at - 1) + length (chunk_in p o.bytes) ≤ length s.copy) × (copy_after state true o.bytes s.copy ≡ y) =
        subst (λ (q : Plan). (block * (at - 1) + length (chunk_in q o.bytes) ≤ length s.copy) × (copy_after state true o.bytes s.copy ≡ put s.copy (block * (at - 1)) (chunk_in q o.bytes)))
        c.plan (chunk_copy state at o.bytes s.copy f t) in
        let long : length (chunk_in p o.bytes) ≡ block * n = length-drop (block * lead_of p) o.bytes ∙ omega arith in
        let ex : step D p K s o ≡ x = rw z (chunk_good state at o.bytes (length s.copy) f t) in
        let ey : copied D p K s o ≡ y = rw z cc.1 in
        let place : block * (at - 1 + n) ≡ block * (at - 1) + block * n = omega arith in
        let mid : Mid D p K (plain x y) (at - 1 + n) true = record {
          opened = still_opened x y refl refl refl;
          kept = λ none live same_last_lem.
              let k = m.kept none live same_last_lem in
              let e : chunk_in p o.bytes ≡ take (block * n) (drop (block * (at - 1)) (K.area s.checked)) = right same_last_lem ∙ rw k.area in
              record {
                area = k.area;
                whole = refl;
                filled = rw place (put_grows s.copy (K.area s.checked) (chunk_in p o.bytes) (block * (at - 1)) (block * n) cc.0 long k.filled e);
              };
          some = λ z. absurd (omega (arith, i.low, i.high, z));
        } in
        finish D p K s o x y ex ey c (rw f c.tries)
        (at_phase D p K (stepped D s o x y) (at + chunk_of state.plan) (at - 1 + n) (area_last state.plan state.attempt.last)
        (ap (λ (q : Plan). area_last q state.attempt.last) c.plan)
        (λ h. rw c.plan (full_done (chunk_of p) at last i.low i.high (rw c.plan at h)))
        (λ h. rw c.plan (short_done (chunk_of p) at last i.low i.high (rw c.plan at h)))
        (subst (λ (v : Stand D). Mid D p K v (at - 1 + n) true) (plain_is x y) mid))

    -- refused, and then the page is no longer the one that the attempt's header showed
    refused : (o.answer ≡ success → ⊥) → ((K.shows s.source).last ≡ state.attempt.last → o.answer ≡ success) → Inv D p K (hears ours D s o)
    unfolding awaited_of
    refused a right =
        let z : fine o ≡ false = ne_eqb o.answer success a in
        let t : refusal_of state false 0 (length s.copy) ≡ success = takes state false [] (length s.copy) c.house (rw f) room refl in
        let i = chunk_inside p state.attempt.last at (rw (f, c.plan) at c.house.inside) in
        let x : Stepped = sends (in_phase state (Close true)) in
        let ex : step D p K s o ≡ x = rw z (chunk_refused state at [] (length s.copy) f t) in
        let ey : copied D p K s o ≡ s.copy =
        sending_copy state (fine o) (data_of o) s.copy (awaited_of (in_phase state (Close true))) (ap (λ (v : Stepped). v.next) ex) (λ b q k. clash k z) in
        finish D p K s o x s.copy ex ey c (rw f c.tries)
        (subst (λ (v : Stand D). Mid D p K v 0 false) (plain_is x s.copy)
        (record {
          opened = still_opened x s.copy refl refl refl;
          kept = λ none live same_last_lem. absurd (a (right same_last_lem));
          some = λ z. absurd (omega (arith, i.low, i.high, z));
        }))

    pub chunk_inv : (o.answer ≡ success → length o.bytes ≡ expected_by (Chunk at) p state.attempt.last)
        → ((K.shows s.source).last ≡ state.attempt.last → (o.answer ≡ success) × (chunk_in p o.bytes ≡ take (block * n) (drop (block * (at - 1)) (K.area s.source))))
        → Inv D p K (hears ours D s o)
    chunk_inv long right =
        same_or_not o.answer success
        (λ a. served a (long a) (λ e. (right e).1))
        (λ a. refused a (λ e. (right e).0))

  -- ---- the acknowledgement

  pub ack_inv : state.phase ≡ Ack → Had D p K s → Header p o (K.shows s.source) → Inv D p K (hears ours D s o)
  unfolding look_of look_by expected_of
  ack_inv f h hdr =
      let op = h.opened in
      let z : fine o ≡ true = eq-eqb o.answer success hdr.answer in
      let t : refusal_of state true (length o.bytes) (length s.copy) ≡ success =
      takes state true o.bytes (length s.copy) c.house (rw f) (c.size ∙ ap (λ (q : Plan). q.room) (sym c.plan)) (rw f hdr.long) in
      let newer : Bool = newer_than state.attempt (look_of state o.bytes) in
      let ex : step D p K s o ≡ ends (ended_in state false) (Success newer) = rw z (ack_done state o.bytes (length s.copy) f t) in
      let left = ending_copy state (fine o) (data_of o) s.copy (record { ending = Success newer; count = state.count }) (ap (λ (v : Stepped). v.next) ex) in
      let l : area_bytes p state.attempt.last ≡ length (K.area s.checked) = ap (area_bytes p) op.last ∙ sym (K.long s.checked op.good) in
      let ey : copied D p K s o ≡ K.area s.checked ++ zeros (p.room - length (K.area s.checked)) =
      left.stood refl ∙ rw (c.plan, c.size, h.filled, l) in
      let low : state.attempt.generation < 256 = rw op.generation (K.byte s.checked op.good) in
      let seen : look_of state o.bytes ≡ K.shows s.source = rw (f, c.plan) hdr.seen in
      let said : newer ≡ noticed s.counts.captures = rw seen (newer_is (K.shows s.source).generation state.attempt.generation s.counts.captures low op.gens) in
      ended D p K s o c false (Success newer) _ ex ey (rw f c.tries)
      (succeeded (ap Success (said ∙ ap (λ (g : Phase). noticed (pick (judged_by g) 0 s.counts.captures)) (sym f))) (rw f) (rw f op.live))
