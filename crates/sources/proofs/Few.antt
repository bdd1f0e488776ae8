-- Where a whole run has at most 255 captures no attempt has more than that, and every capture after the last check is noticed: so the statement for 255 captures and
-- drops in all follows from the one for 255 captures in each attempt.
-- Assumes nothing.
use Rattle.std.specs.Prelude.{ℕ, ◌≤◌, ◌%◌, ◌≡◌, Bool, leb, ltb}
use mathlib.Core.List.{List, [], ◌∷◌}
use native.Mathlib.Omega.{arith}
use Rattle.std.proofs.Common.{lt-ltb, ne_eqb}
use Rattle.choices.specs.Choice.{pick_cases}
use Rattle.choices.specs.Tests.{same_or_not}
use Rattle.plans.specs.declared.Plan.{Plan}
use Rattle.phases.specs.Phases.{judged_by}
use Rattle.collection.specs.Told.{Next}
use Rattle.collection.specs.declared.Next.TheVariants.{Send, End as Ends, Refuse}
use Rattle.sources.specs.Source.{Source, Collector, Turn, Counters, changed, heard, Stand, for_lent, happens, happen, hears, turn_by, run, begun, collected}
use Rattle.sources.specs.Promise.{noticed}
use Rattle.sources.specs.Few.{Among}

-- up to 255 captures any at all is noticed
pub noticed_few : (n : ℕ) → n ≤ 255 → noticed n ≡ ltb 0 n
noticed_few n few =
    same_or_not n 0
    (λ none. rw none)
    (λ some. let short : n % 256 ≡ 0 → ⊥ = λ z. some (omega (arith, z)) in rw (ne_eqb (n % 256) 0 short, lt-ltb 0 n (omega (arith, some))))

changed_among : (n m : ℕ) (c : Counters) → Among c → Among (changed n m c)
changed_among n m c a = record { since = omega (arith, a.since); most = omega (arith, a.most) }

heard_among : (judged lent : Bool) (c : Counters) → Among c → Among (heard judged lent c)
heard_among judged lent c a = record {
  since = pick_cases (λ (n : ℕ). n ≤ c.changes) judged (λ e. omega arith) (λ e. a.since);
  most = pick_cases (λ (n : ℕ). n ≤ c.changes) judged (λ e. pick_cases (λ (n : ℕ). n ≤ c.changes) (leb c.most_in_attempt c.captures) (λ l. a.since) (λ l. a.most)) (λ e. a.most);
}

-- in a run of any collector from any source
module _ (C : Collector) (D : Source) where
  happen_among : (es : List D.Event) (s : Stand D) → Among s.counts → Among (happen D es s).counts
  unfolding happen happens
  happen_among [] s a = a
  happen_among (e ∷ es) s a = happen_among es (happens D e s) (changed_among (D.captures e s.source) (D.drops e s.source) s.counts a)

  turn_among : (n : Next) (t : Turn D) (s : Stand D) → Among s.counts → Among (turn_by C D n t s).counts
  unfolding hears
  turn_among (Send w) t s a =
      let b : Stand D = happen D t.events s in
      heard_among (judged_by b.collection.phase) (for_lent (D.command t.lent w b.source).answer) b.counts (happen_among t.events s a)
  turn_among (Ends e) t s a = a
  turn_among (Refuse n) t s a = a

  run_among : (ts : List (Turn D)) (s : Stand D) → Among s.counts → Among (run C D ts s).counts
  unfolding run
  run_among [] s a = a
  run_among (t ∷ ts) s a = run_among ts (turn_by C D s.said t s) (turn_among s.said t s a)

  pub among : (p : Plan) (copy : List ℕ) (d : D.State) (first : D.Lent) (ts : List (Turn D)) → Among (collected C D p copy d first ts).counts
  unfolding collected begun
  among p copy d first ts =
      run_among ts _ (turn_among (C.setup p).next (record { events = []; lent = first }) (begun C D p copy d) (record { since = omega arith; most = omega arith }))
