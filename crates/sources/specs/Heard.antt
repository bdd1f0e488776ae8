-- A command of the run keeps the invariant: it is answered by the source, and its completion is handed to the collection.
-- Assumes nothing.
use Prim.Native.Nat.{ℕ, ◌+◌, ◌-◌, ◌≤◌, ◌<◌}
use Rattle.std.specs.Prelude.{◌≡◌, refl, List, [], ◌∷◌, Bool, leb}
use Rattle.std.proofs.Common.{ap, ◌∙◌, leb-true, leb-false, eq-eqb}
use Rattle.std.proofs.Math.Path.{subst}
use Rattle.std.proofs.Math.Bool.{true, false}
use native.Mathlib.Omega.{arith}
use Rattle.std.proofs.Math.ListN.{length, length-append}
use Rattle.choices.specs.Choice.{pick, pick_cases, larger_left, larger_right}
use Rattle.copies.specs.Parts.{zeros}
use Rattle.answers.specs.Answers.{success}
use Rattle.pages.specs.Pages.{most4}
use Rattle.plans.specs.declared.Plan.{Plan}
use Rattle.phases.specs.declared.Phase.{Phase}
use Rattle.phases.specs.Phases.{judged_by, ended_by}
use Rattle.plans.specs.Plans.{area_last}
use Rattle.phases.specs.Asked.{phase_at}
use Rattle.collection.specs.Collection.{expected_of, completion_fits, refusal_of, number_in, ends, step_of, copy_after}
use Rattle.collection.specs.Steps.{ended_in}
use Rattle.endings.specs.declared.Ending.{Ending}
use Rattle.turns.specs.Turns.{good}
use Rattle.collection.specs.declared.Collection.{Collection}
use Rattle.collection.specs.Told.{Stepped}
use Rattle.collection.specs.Copied.{copy_length, ending_copy}
use Rattle.runs.specs.Run.{Completion, given, called_for, most_chunks}
use Rattle.runs.specs.Counted.{step_counts}
use Rattle.runs.specs.Bound.{Reached}
use Rattle.runs.proofs.Bound.{reached_ok, reached_more, step_reached, step_house}
use Rattle.sources.specs.Source.{Source, ours, Done, Stand, fine, data_of, stepped, hears}
use Rattle.sources.specs.Keeps.{Keeps}
use Rattle.sources.specs.Promise.{Told}
use Rattle.sources.specs.Inv.{Common, Mid, At, Inv}

-- a valid state that has not ended takes every completion that fits
pub takes : (c : Collection) (ok : Bool) (d : List ℕ) (n : ℕ) → Reached most4 c → ended_by c.phase ≡ false → n ≡ c.plan.room
    → length d ≡ pick ok (expected_of c) 0 → refusal_of c ok (length d) n ≡ success
unfolding refusal_of completion_fits
takes c ok d n r g l e = rw (g, reached_ok c r, eq-eqb n c.plan.room l, eq-eqb (length d) (pick ok (expected_of c) 0) e)

module _ (D : Source) (p : Plan) (K : Keeps D p) where
  -- the chunk at a block or the closing header, by how many blocks are done
  pub at_phase : (s : Stand D) (at done b : ℕ) → b ≡ area_last p s.collection.attempt.last → (at ≤ b → done ≡ at - 1) → (b < at → done ≡ b)
      → Mid D p K s done true → At D p K (phase_at at b) s
  unfolding phase_at
  at_phase s at done b eb h k m =
      pick_cases (λ (f : Phase). At D p K f s) (leb at b)
      (λ e. subst (λ (n : ℕ). Mid D p K s n true) (h (leb-true at b e)) m)
      (λ e. subst (λ (n : ℕ). Mid D p K s n true) (k (leb-false at b e) ∙ eb) m)

module _ (D : Source) (p : Plan) (K : Keeps D p) (s : Stand D) (o : Done D.State) where
  abbrev pub step : Stepped
  step = step_of s.collection (fine o) (data_of o) (length s.copy)

  abbrev pub copied : List ℕ
  copied = copy_after s.collection (fine o) (data_of o) s.copy

  most_grows : (t : Bool) → most_chunks p s.headers ≤ most_chunks p (pick t (data_of o ∷ s.headers) s.headers)
  unfolding most_chunks
  most_grows true = larger_right (called_for p (data_of o)) (most_chunks p s.headers)
  most_grows false = omega arith

  -- the captures and drops since the last header, after it
  abbrev pub captures_heard : ℕ
  captures_heard = pick (judged_by s.collection.phase) 0 s.counts.captures

  abbrev pub drops_heard : ℕ
  drops_heard = pick (judged_by s.collection.phase) 0 s.counts.drops

  common : Common D p K s → step.state.attempt.number + captures_heard + drops_heard ≤ s.counts.changes + 1 → Common D p K (hears ours D s o)
  unfolding hears most_chunks
  common c t =
      let k : Completion = record { ok = fine o; bytes = data_of o; copy = length s.copy } in
      let n = step_counts s.collection (fine o) (data_of o) (length s.copy) in
      let l = length-append s.sent (given step.next) in
      let more : ℕ = most_chunks p (pick (judged_by s.collection.phase) (data_of o ∷ s.headers) s.headers) in
      record {
        plan = n.plan ∙ c.plan;
        size = copy_length s.collection (fine o) (data_of o) s.copy ∙ c.size;
        house = step_house s.collection k c.house;
        reached =
            step_reached more s.collection k (reached_more (most_chunks p s.headers) more s.collection (most_grows (judged_by s.collection.phase)) c.reached)
            (λ e j. rw (c.plan, j) (larger_left (called_for p (data_of o)) (most_chunks p s.headers)));
        counted = omega (arith, n.count, c.counted);
        tries = t;
      }

  -- a step and a copy put in
  pub finish : (x : Stepped) (y : List ℕ) → step ≡ x → copied ≡ y → Common D p K s
      → x.state.attempt.number + captures_heard + drops_heard ≤ s.counts.changes + 1
      → At D p K x.state.phase (stepped D s o x y)
      → Inv D p K (hears ours D s o)
  unfolding hears
  finish x y ex ey c t a = record { common = common c (rw ex t); now = rw (ex, ey) a }

  -- ---- endings

  -- one that is no success leaves zeros
  pub zeroed : Common D p K s → (next : Bool) (e : Ending) → good e ≡ false → step ≡ ends (ended_in s.collection next) e → copied ≡ zeros p.room
  zeroed c next e l ex =
      let left = ending_copy s.collection (fine o) (data_of o) s.copy (record { ending = e; count = s.collection.count }) (ap (λ (x : Stepped). x.next) ex) in
      left.cleared l ∙ ap zeros c.size

  pub ended : Common D p K s → (next : Bool) (e : Ending) (y : List ℕ) → step ≡ ends (ended_in s.collection next) e → copied ≡ y
      → number_in s.collection next + captures_heard + drops_heard ≤ s.counts.changes + 1
      → Told D p K (record { ending = e; count = s.collection.count }) (stepped D s o (ends (ended_in s.collection next) e) y)
      → Inv D p K (hears ours D s o)
  ended c next e y ex ey t told =
      finish (ends (ended_in s.collection next) e) y ex ey c t
      (record { ending = record { ending = e; count = s.collection.count }; said = refl; told = told; count = omega (arith, c.counted, length-append s.sent []) })
