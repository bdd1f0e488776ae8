-- The promise of demand 3, for every source that keeps the laws of `Keeps`.
-- Assumes nothing.
use Rattle.std.specs.Prelude.{ℕ, ◌+◌, ◌*◌, ◌≤◌, ◌<◌, ◌≡◌, refl, List, [], false, eqb}
use Rattle.std.proofs.Common.{sym, ◌∙◌, mul-le-mul_right, arith}
use Rattle.std.proofs.Math.Path.{ap, subst}
use Rattle.std.proofs.Math.ListN.{length}
use Rattle.choices.specs.Choice.{pick_cases}
use Rattle.choices.specs.Tests.{by_test}
use Rattle.copies.specs.Parts.{zeros}
use Rattle.answers.specs.Answers.{success}
use Rattle.pages.specs.Pages.{controller_page, most4}
use Rattle.plans.specs.declared.Plan.{Plan}
use Rattle.phases.specs.declared.Phase.TheVariants.{First}
use Rattle.plans.specs.Limits.{plan_limits}
use Rattle.phases.specs.Phases.{ended_by}
use Rattle.plans.specs.Plans.{setup_answer}
use Rattle.phases.specs.Asked.{words_by}
use Rattle.collection.specs.Collection.{awaited_of, beginning, setup_of}
use Rattle.collection.specs.Steps.{setup_taken}
use Rattle.collection.specs.declared.Finish.{Finish}
use Rattle.collection.specs.Told.{Next}
use Rattle.collection.specs.declared.Next.TheVariants.{Send, End as Ends, Refuse}
use Rattle.collection.specs.Told.{Stepped}
use Rattle.runs.specs.Run.{given, acknowledging, most_chunks}
use Rattle.runs.specs.Bound.{Reached}
use Rattle.runs.proofs.Bound.{reached_count, reached_more, old_chunks, begins}
use Rattle.sources.specs.Source.{Source, ours, Turn, Stand, for_lent, happen, hears, turn_by, run, begun, collected}
use Rattle.sources.specs.Keeps.{Keeps}
use Rattle.sources.specs.Promise.{Told, most_commands, Promise, Finished}
use Rattle.sources.specs.Inv.{Common, Over, Inv}
use Rattle.sources.specs.Judged.{first_inv}
use Rattle.sources.proofs.Turns.{run_grows, no_lent_refusal, hears_counts, said_by, over_by, run_inv, going_counts}

-- the bound of every plan that setup takes fits 64 bits
pub bound_limit : (p : Plan) → setup_answer p ≡ success → (k : ℕ) → k < p.attempts → most_commands p k most4 ≤ 68718493697
bound_limit p e k more =
    let l = (plan_limits p e).attempts_high in
    let one : acknowledging p ≤ 1 = pick_cases (λ (n : ℕ). n ≤ 1) (eqb p.page controller_page) (λ q. omega arith) (λ q. omega arith) in
    omega arith

module _ (D : Source) (p : Plan) (K : Keeps D p) where
  -- ---- the first command

  begun_common : (copy : List ℕ) (d : D.State) → setup_answer p ≡ success → length copy ≡ p.room → Common D p K (begun ours D p copy d)
  unfolding begun most_chunks
  begun_common copy d e l = record {
    plan = rw (setup_taken p e);
    size = l;
    house = begins most4 p e;
    reached = begins 0 p e;
    counted = rw (setup_taken p e);
    tries = rw (setup_taken p e) (omega arith);
  }

  -- the run after its first command
  opened : (copy : List ℕ) (d : D.State) (first : D.Lent) → setup_answer p ≡ success → length copy ≡ p.room → K.Good d
      → for_lent (D.command first (awaited_of (beginning p First 1)) d).answer ≡ false
      → Inv D p K (hears ours D (begun ours D p copy d) (D.command first (awaited_of (beginning p First 1)) d))
  unfolding begun awaited_of
  opened copy d first e l g fair =
      let r = K.first first (beginning p First 1).attempt.last d g fair in
      let ph : (setup_of p).state.phase ≡ First = rw (setup_taken p e) in
      first_inv D p K (begun ours D p copy d) (D.command first (awaited_of (beginning p First 1)) d) (begun_common copy d e l) (rw ph) r.0 r.1 ph
      (rw (setup_taken p e)) (rw (setup_taken p e))

  -- ---- what the invariant says

  at_end : (s : Stand D) → Inv D p K s → (n : Next) → s.said ≡ n → given n ≡ [] → Over D p K s
  at_end s i n e none =
      by_test (ended_by s.collection.phase)
      (λ g. over_by D p K s.collection.phase s i.now g)
      (λ g. let z : ◌≡◌ {A = ℕ} 1 0 = ap (λ (m : Next). length (given m)) (sym (said_by D p K s.collection.phase s i.now g) ∙ e) ∙ ap length none in absurd (omega arith))

  same_ending : {e f : Finish} → ◌≡◌ {A = Next} (Ends e) (Ends f) → e ≡ f
  same_ending q = cc

  bound : (k most : ℕ) (s : Stand D) → Common D p K s → Reached most s.collection → s.counts.changes ≤ k → s.collection.count ≤ most_commands p k most
  bound k most s c r h =
      let a : s.collection.attempt.number ≤ k + 1 = omega (arith, c.tries) in
      let n : s.collection.count ≤ 1 + s.collection.attempt.number * (most + 1) + acknowledging p = rw c.plan at (reached_count most s.collection r) in
      omega (arith, n, mul-le-mul_right (most + 1) a)

  pub promises : (k : ℕ) (s : Stand D) → Inv D p K s → s.counts.changes ≤ k → Promise D p K k s
  promises k s i h =
      let c = i.common in
      record {
        counted = c.counted;
        bounded = bound k (most_chunks p s.headers) s c c.reached h;
        limited = bound k most4 s c c.house h;
        once = λ o.
            let e : setup_answer p ≡ success = rw c.plan at c.reached.plan in
            bound k 1 s c (reached_more (most_chunks p s.headers) 1 s.collection (old_chunks p s.headers e o) c.reached) h;
        never = λ n e. let o = at_end s i (Refuse n) e refl in let z : ◌≡◌ {A = ℕ} 0 1 = differ (sym e ∙ o.said) in absurd (omega arith);
        told = λ e q. let o = at_end s i (Ends e) q refl in subst (λ (x : Finish). Told D p K x s) (same_ending (sym o.said ∙ q)) o.told;
        says = λ e q. let o = at_end s i (Ends e) q refl in sym (ap (λ (x : Finish). x.count) (same_ending (sym o.said ∙ q))) ∙ o.count;
      }
    where
      differ : {n : ℕ} {e : Finish} → Refuse n ≡ Ends e → ◌≡◌ {A = ℕ} 0 1
      differ q = cc

  -- ---- the theorem

  module _ (copy : List ℕ) (d : D.State) (first : D.Lent) (ts : List (Turn D)) where
    abbrev final : Stand D
    final = collected ours D p copy d first ts

    abbrev start : Stand D
    start = hears ours D (begun ours D p copy d) (D.command first (awaited_of (beginning p First 1)) d)

    final_is : setup_answer p ≡ success → final ≡ run ours D ts start
    unfolding collected happen begun
    final_is e = ap (λ (n : Next). run ours D ts (turn_by ours D n (record { events = []; lent = first }) (begun ours D p copy d))) (ap (λ (x : Stepped). x.next) (setup_taken p e))

    -- the first command, too, was refused for no lent data
    pub first_fair : setup_answer p ≡ success → final.counts.lent_refusals ≡ 0 → for_lent (D.command first (words_by First p (zeros 4)) d).answer ≡ false
    unfolding begun awaited_of
    first_fair e none =
        let grown = run_grows D p K ts start in
        let none' : (run ours D ts start).counts.lent_refusals ≡ 0 = subst (λ (s : Stand D). s.counts.lent_refusals ≡ 0) (final_is e) none in
        no_lent_refusal D p K (begun ours D p copy d) (D.command first (awaited_of (beginning p First 1)) d) (omega (arith, grown.lent_refusals, none'))

    -- as many completions as the count can be end it
    ends : setup_answer p ≡ success → (k b : ℕ) → Promise D p K k (run ours D ts start) → (run ours D ts start).collection.count ≤ b → b ≤ 1 + length ts
        → (n : Next) → (run ours D ts start).said ≡ n → Finished D (run ours D ts start)
    unfolding begun
    ends e k b r few long (Send w) q =
        let g = going_counts D p K ts start (ap (λ (n : Next). length (given n)) q) in
        let c = hears_counts D p K (begun ours D p copy d) (D.command first (awaited_of (beginning p First 1)) d) in
        let one : (setup_of p).state.count ≡ 1 = rw (setup_taken p e) in
        absurd (omega (arith, g.0, g.1, c, one))
    ends e k b r few long (Ends x) q = record { ending = x; said = q }
    ends e k b r few long (Refuse n) q = absurd (r.never n q)

    -- A collection that setup takes, into a copy of its room, from a good source, with at most k captures and drops after its first command, k
    -- being less than the attempts, at most 255 of them captures in one attempt, and none of its commands refused for lent data: the promise, and that it ends,
    -- by any bound b of its count.
    pub demand : setup_answer p ≡ success → length copy ≡ p.room → K.Good d → (k : ℕ) → k < p.attempts → final.counts.changes ≤ k → final.counts.most_in_attempt ≤ 255
        → final.counts.lent_refusals ≡ 0
        → Promise D p K k final × ((b : ℕ) → final.collection.count ≤ b → b ≤ 1 + length ts → Finished D final)
    unfolding awaited_of
    demand e l g k more h few none =
        let q = final_is e in
        let h' : (run ours D ts start).counts.changes ≤ k = subst (λ (s : Stand D). s.counts.changes ≤ k) q h in
        let few' : (run ours D ts start).counts.most_in_attempt ≤ 255 = subst (λ (s : Stand D). s.counts.most_in_attempt ≤ 255) q few in
        let none' : (run ours D ts start).counts.lent_refusals ≡ 0 = subst (λ (s : Stand D). s.counts.lent_refusals ≡ 0) q none in
        let fair = first_fair e none in
        let i : Inv D p K (run ours D ts start) = run_inv D p K ts start (opened copy d first e l g fair) (omega arith) few' none' in
        subst (λ (s : Stand D). Promise D p K k s × ((b : ℕ) → s.collection.count ≤ b → b ≤ 1 + length ts → Finished D s)) (sym q)
        (promises k (run ours D ts start) i h', λ b few long. ends e k b (promises k (run ours D ts start) i h') few long (run ours D ts start).said refl)
