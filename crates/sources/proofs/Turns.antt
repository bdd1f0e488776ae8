-- The invariant holds all along a run, and while the run goes on each turn counts one command more.
-- Assumes nothing.
use Rattle.std.specs.Prelude.{ℕ, ◌+◌, ◌≤◌, ◌<◌, true}
use Rattle.std.proofs.Math.Path.{◌≡◌, refl, sym, ap, subst}
use Rattle.std.proofs.Common.{◌∙◌}
use mathlib.Core.List.{List, [], ◌∷◌}
use Rattle.std.proofs.Math.Bool.{false}
use native.Mathlib.Omega.{arith}
use Rattle.std.proofs.Math.ListN.{length}
use Rattle.choices.specs.Choice.{pick_cases, larger_left, larger_right}
use Rattle.choices.specs.Tests.{by_test, clash}
use Rattle.words.specs.declared.Words.{Words}
use Rattle.plans.specs.declared.Plan.{Plan}
use Rattle.phases.specs.declared.Phase.{Phase}
use Rattle.phases.specs.declared.Phase.TheVariants.{First, Chunk, Close, Ack, Ended}
use Rattle.phases.specs.Phases.{judged_by, ended_by, closing_by, refused_by}
use Rattle.plans.specs.Plans.{area_last}
use Rattle.phases.specs.Asked.{words_by}
use Rattle.completions.specs.Completions.{shows_none}
use Rattle.collection.specs.Collection.{awaited_of}
use Rattle.collection.specs.declared.Collection.{Collection}
use Rattle.collection.specs.Told.{Next}
use Rattle.collection.specs.declared.Next.TheVariants.{Send, End as Ends, Refuse}
use Rattle.runs.specs.Run.{given}
use Rattle.runs.specs.Counted.{step_counts}
use Rattle.sources.specs.Source.{Source, ours, Done, Turn, Counters, Stand, for_lent, fine, data_of, happens, happen, hears, turn_by, run}
use Rattle.sources.specs.Keeps.{Keeps, Header}
use Rattle.sources.specs.Inv.{Common, Still, SameLast, Opened, Over, At, Inv}
use Rattle.sources.specs.Happened.{happen_inv}
use Rattle.sources.specs.Judged.{closing_inv}
use Rattle.sources.proofs.Chunks.{chunk_inv, ack_inv}
use Rattle.sources.specs.Turns.{Grows}

-- ---- what is counted since the first command only grows

grows_not : (a : Counters) → Grows a a
grows_not a = record { changes = omega arith; most_in_attempt = omega arith; lent_refusals = omega arith }

grows_on : {a b c : Counters} → Grows a b → Grows b c → Grows a c
grows_on x y = record {
  changes = omega (arith, x.changes, y.changes);
  most_in_attempt = omega (arith, x.most_in_attempt, y.most_in_attempt);
  lent_refusals = omega (arith, x.lent_refusals, y.lent_refusals);
}

module _ (D : Source) (p : Plan) (K : Keeps D p) where
  -- ---- a command of the run

  -- a header that closes an attempt
  closes : (f : Phase) → closing_by f ≡ true → judged_by f ≡ true → (s : Stand D) (l : D.Lent) → Common D p K s → s.collection.phase ≡ f → Opened D p K s
      → (s.counts.captures ≡ 0 → shows_none p (K.shows s.source) ≡ false → SameLast D p K s → (refused_by f ≡ false) × Still D p K s (area_last p s.collection.attempt.last) true)
      → s.counts.captures ≤ 255 → s.counts.changes < p.attempts → for_lent (D.command l (words_by f p s.collection.attempt.last) s.source).answer ≡ false
      → Inv D p K (hears ours D s (D.command l (words_by f p s.collection.attempt.last) s.source))
  closes f cl hd s l c e op stood few more fair =
      let o : Done D.State = D.command l (words_by f p s.collection.attempt.last) s.source in
      let r = K.closing f cl l s.collection.attempt.last s.source op.here fair in
      let same : o.source ≡ s.source = r.1 in
      closing_inv D p K s o c (rw e hd) (subst (λ (d : D.State). Header p o (K.shows d)) (sym same) r.0) (subst (λ (d : D.State). K.Good d) (sym same) op.here) (rw e cl) op same
      (λ none live last. let k = stood none live last in (ap refused_by e ∙ k.0, k.1)) few more

  own_by : (f : Phase) (s : Stand D) (l : D.Lent) → Common D p K s → s.collection.phase ≡ f → At D p K f s → ended_by f ≡ false
      → (judged_by f ≡ true → s.counts.captures ≤ 255) → s.counts.changes < p.attempts
      → for_lent (D.command l (words_by f p s.collection.attempt.last) s.source).answer ≡ false
      → Inv D p K (hears ours D s (D.command l (words_by f p s.collection.attempt.last) s.source))
  own_by First s l c e a g few more fair = absurd a
  own_by (Chunk at) s l c e a g few more fair =
      let r = K.chunk at l s.collection.attempt.last s.source a.opened.here (rw c.plan at c.house.area) (rw (c.plan, e) at c.house.inside) fair in
      chunk_inv D p K s (D.command l (words_by (Chunk at) p s.collection.attempt.last) s.source) c at e a r.0 r.1 r.2
  own_by (Close false) s l c e a g few more fair = closes (Close false) refl refl s l c e a.opened (λ none live last. (refl, a.kept none live last)) (few refl) more fair
  own_by (Close true) s l c e a g few more fair =
      closes (Close true) refl refl s l c e a.opened (λ none live last. clash {t = true} refl (sym (a.kept none live last).whole)) (few refl) more fair
  own_by Ack s l c e a g few more fair =
      ack_inv D p K s (D.command l (words_by Ack p s.collection.attempt.last) s.source) c e a (K.ack l s.collection.attempt.last s.source a.opened.here fair)
  own_by Ended s l c e a g few more fair = clash {t = true} refl g

  own_inv : (s : Stand D) (l : D.Lent) → Inv D p K s → ended_by s.collection.phase ≡ false
      → (judged_by s.collection.phase ≡ true → s.counts.captures ≤ 255) → s.counts.changes < p.attempts
      → for_lent (D.command l (awaited_of s.collection) s.source).answer ≡ false
      → Inv D p K (hears ours D s (D.command l (awaited_of s.collection) s.source))
  unfolding awaited_of
  own_inv s l i g few more =
      let q : words_by s.collection.phase p s.collection.attempt.last ≡ words_by s.collection.phase s.collection.plan s.collection.attempt.last = rw i.common.plan in
      subst (λ (w : Words). for_lent (D.command l w s.source).answer ≡ false → Inv D p K (hears ours D s (D.command l w s.source))) q
      (own_by s.collection.phase s l i.common refl i.now g few more)

  -- ---- a turn

  -- events leave the collection and what it said
  happen_state : (es : List D.Event) (s : Stand D) → (happen D es s).collection ≡ s.collection
  unfolding happen happens
  happen_state [] s = refl
  happen_state (e ∷ es) s = happen_state es (happens D e s)

  happen_grows : (es : List D.Event) (s : Stand D) → Grows s.counts (happen D es s).counts
  unfolding happen happens
  happen_grows [] s = grows_not s.counts
  happen_grows (e ∷ es) s =
      grows_on (record { changes = omega arith; most_in_attempt = omega arith; lent_refusals = omega arith }) (happen_grows es (happens D e s))

  hears_grows : (s : Stand D) (o : Done D.State) → Grows s.counts (hears ours D s o).counts
  unfolding hears
  hears_grows s o = record {
    changes = omega arith;
    most_in_attempt =
        pick_cases (λ (n : ℕ). s.counts.most_in_attempt ≤ n) (judged_by s.collection.phase) (λ e. larger_left s.counts.most_in_attempt s.counts.captures) (λ e. omega arith);
    lent_refusals = omega arith;
  }

  turn_grows : (n : Next) (t : Turn D) (s : Stand D) → Grows s.counts (turn_by ours D n t s).counts
  turn_grows (Send w) t s =
      grows_on (happen_grows t.events s) (hears_grows (happen D t.events s) (D.command t.lent w (happen D t.events s).source))
  turn_grows (Ends e) t s = grows_not s.counts
  turn_grows (Refuse n) t s = grows_not s.counts

  pub run_grows : (ts : List (Turn D)) (s : Stand D) → Grows s.counts (run ours D ts s).counts
  unfolding run
  run_grows [] s = grows_not s.counts
  run_grows (t ∷ ts) s = grows_on (turn_grows s.said t s) (run_grows ts (turn_by ours D s.said t s))

  -- a command that is refused for lent data is counted
  pub no_lent_refusal : (s : Stand D) (o : Done D.State) → (hears ours D s o).counts.lent_refusals ≡ 0 → for_lent o.answer ≡ false
  unfolding hears
  no_lent_refusal s o = pick_cases (λ (n : ℕ). s.counts.lent_refusals + n ≡ 0 → for_lent o.answer ≡ false) (for_lent o.answer) (λ e z. absurd (omega arith)) (λ e z. e)

  -- the captures of the attempt that a header closes are among the most in an attempt
  closed_few : (s : Stand D) (o : Done D.State) → (hears ours D s o).counts.most_in_attempt ≤ 255 → judged_by s.collection.phase ≡ true → s.counts.captures ≤ 255
  unfolding hears
  closed_few s o few j = let l = larger_right s.counts.most_in_attempt s.counts.captures in omega (arith, rw j at few, l)

  -- what is awaited is sent, and at the end nothing is
  pub said_by : (f : Phase) (s : Stand D) → At D p K f s → ended_by f ≡ false → s.said ≡ Send (awaited_of s.collection)
  said_by First s a g = absurd a
  said_by (Chunk at) s a g = a.opened.said
  said_by (Close after) s a g = a.opened.said
  said_by Ack s a g = a.opened.said
  said_by Ended s a g = clash {t = true} refl g

  pub over_by : (f : Phase) (s : Stand D) → At D p K f s → ended_by f ≡ true → Over D p K s
  over_by First s a g = clash {t = true} refl (sym g)
  over_by (Chunk at) s a g = clash {t = true} refl (sym g)
  over_by (Close after) s a g = clash {t = true} refl (sym g)
  over_by Ack s a g = clash {t = true} refl (sym g)
  over_by Ended s a g = a

  -- what a turn is asked for: few captures in an attempt that it closes, an attempt left, and no refusal for lent data
  module _ (t : Turn D) (s : Stand D) (i : Inv D p K s) where
    abbrev after : Stand D
    after = turn_by ours D s.said t s

    stays : ended_by s.collection.phase ≡ true → Inv D p K after
    stays g = subst (λ (n : Next). Inv D p K (turn_by ours D n t s)) (sym (over_by s.collection.phase s i.now g).said) i

    goes : ended_by s.collection.phase ≡ false → after.counts.changes < p.attempts → after.counts.most_in_attempt ≤ 255 → after.counts.lent_refusals ≡ 0 → Inv D p K after
    goes g more few none =
        let said = said_by s.collection.phase s i.now g in
        let before : Stand D = happen D t.events s in
        let o : Done D.State = D.command t.lent (awaited_of s.collection) before.source in
        let st : before.collection ≡ s.collection = happen_state t.events s in
        let w : awaited_of before.collection ≡ awaited_of s.collection = ap awaited_of st in
        let more' = subst (λ (n : Next). (turn_by ours D n t s).counts.changes < p.attempts) said more in
        let few' = subst (λ (n : Next). (turn_by ours D n t s).counts.most_in_attempt ≤ 255) said few in
        let none' = subst (λ (n : Next). (turn_by ours D n t s).counts.lent_refusals ≡ 0) said none in
        let grown = (hears_grows before o).changes in
        subst (λ (n : Next). Inv D p K (turn_by ours D n t s)) (sym said)
        (rw w at (own_inv before t.lent (happen_inv D p K t.events s g i) (rw st g) (closed_few before o few') (omega (arith, grown, more')) (rw w (no_lent_refusal before o none'))))

    turn_inv : after.counts.changes < p.attempts → after.counts.most_in_attempt ≤ 255 → after.counts.lent_refusals ≡ 0 → Inv D p K after
    turn_inv more few none = by_test (ended_by s.collection.phase) (λ g. stays g) (λ g. goes g more few none)

  -- ---- a run

  pub run_inv : (ts : List (Turn D)) (s : Stand D) → Inv D p K s → (run ours D ts s).counts.changes < p.attempts → (run ours D ts s).counts.most_in_attempt ≤ 255
      → (run ours D ts s).counts.lent_refusals ≡ 0 → Inv D p K (run ours D ts s)
  unfolding run
  run_inv [] s i more few none = i
  run_inv (t ∷ ts) s i more few none =
      let g = run_grows ts (turn_by ours D s.said t s) in
      run_inv ts (turn_by ours D s.said t s)
      (turn_inv t s i (omega (arith, g.changes, more)) (omega (arith, g.most_in_attempt, few)) (omega (arith, g.lent_refusals, none))) more few none

  -- while a run goes on each turn counts one command more

  pub hears_counts : (s : Stand D) (o : Done D.State) → (hears ours D s o).collection.count ≡ s.collection.count + length (given (hears ours D s o).said)
  unfolding hears
  hears_counts s o = (step_counts s.collection (fine o) (data_of o) (length s.copy)).count

  pub going_counts : (ts : List (Turn D)) (s : Stand D) → length (given (run ours D ts s).said) ≡ 1 → ((run ours D ts s).collection.count ≡ s.collection.count + length ts) × (length (given s.said) ≡ 1)
  unfolding run
  going_counts [] s e = (omega arith, e)
  going_counts (t ∷ ts) s e = by s.said refl (going_counts ts (turn_by ours D s.said t s) e)
    where
      by : (n : Next) → s.said ≡ n
          → ((run ours D ts (turn_by ours D n t s)).collection.count ≡ (turn_by ours D n t s).collection.count + length ts) × (length (given (turn_by ours D n t s).said) ≡ 1)
          → ((run ours D ts (turn_by ours D n t s)).collection.count ≡ s.collection.count + length (t ∷ ts)) × (length (given s.said) ≡ 1)
      by (Send w) q r =
          let b : Stand D = happen D t.events s in
          let h = hears_counts b (D.command t.lent w b.source) in
          let c : b.collection.count ≡ s.collection.count = ap (λ (x : Collection). x.count) (happen_state t.events s) in
          (omega (arith, h, c, r.0, r.1), ap (λ (n : Next). length (given n)) q)
      by (Ends x) q r = let z : ◌≡◌ {A = ℕ} 0 1 = sym (ap (λ (n : Next). length (given n)) q) ∙ r.1 in absurd (omega arith)
      by (Refuse n) q r = let z : ◌≡◌ {A = ℕ} 0 1 = sym (ap (λ (n : Next). length (given n)) q) ∙ r.1 in absurd (omega arith)
