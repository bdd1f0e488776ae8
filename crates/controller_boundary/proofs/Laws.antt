-- What a caller across the boundary may rest on: a refusal changes nothing, and a record that is written is intact and so can be lent again.
-- Assumes nothing.
use Rattle.std.specs.Prelude.{ℕ, ◌≡◌, List, true, eqb}
use Rattle.std.proofs.Math.Path.{refl, ap}
use Rattle.std.proofs.Common.{sym}
use Rattle.choices.specs.Choice.{pick_cases}
use Rattle.choices.specs.Tests.{by_test}
use Rattle.answers.specs.Answers.{success}
use Rattle.words.specs.declared.Words.{Words}
use Rattle.controller.specs.Controller.{World, world, Candidate, Outcome, command_of, capture_of, drop_of}
use Rattle.controller.proofs.Laws.{refusal_changes_nothing, capture_refusal_changes_nothing}
use Rattle.record_layout.specs.Layout.{record_at, record_intact}
use Rattle.record_layout.specs.Back.{record_intact_lem}
use Rattle.controller_boundary.specs.Boundary.{record_after, command_at, capture_at, drop_at}
use Rattle.controller_boundary.proofs.Steps.{kept_record}

module _ (r h k : List ℕ) (candidate : Candidate) where
  -- a command that is no success leaves the record's bytes, the host store and the buffer as lent
  pub command_refusal : (words : Words) (buf : List ℕ) → ((command_at r h k candidate words buf).answer ≡ success → ⊥)
      → ((command_at r h k candidate words buf).own ≡ r) × ((command_at r h k candidate words buf).host ≡ h) × ((command_at r h k candidate words buf).buf ≡ buf)
  unfolding command_at
  command_refusal words buf =
      by_test (record_intact r)
      (λ p.
      rw p
      (λ n.
      let w = world (record_at r) h k in
      let f = refusal_changes_nothing w candidate words buf n in
      (sym (kept_record r (command_of w candidate words buf).answer (command_of w candidate words buf).world.own n), ap (λ (x : World). x.host) f.0, f.1)))
      (λ p. rw p (λ n. (refl, refl, refl)))

  -- a capture that is no success leaves the record's bytes and the controller store as lent
  pub capture_refusal : ((capture_at r h k candidate).answer ≡ success → ⊥) → ((capture_at r h k candidate).own ≡ r) × ((capture_at r h k candidate).controller ≡ k)
  unfolding capture_at
  capture_refusal =
      by_test (record_intact r)
      (λ p.
      rw p
      (λ n.
      let w = world (record_at r) h k in
      (sym (kept_record r (capture_of w candidate).answer (capture_of w candidate).world.own n), ap (λ (x : World). x.controller) (capture_refusal_changes_nothing w candidate n))))
      (λ p. rw p (λ n. (refl, refl)))

-- and so does a drop
pub drop_refusal : (r h k : List ℕ) → ((drop_at r h k).answer ≡ success → ⊥) → (drop_at r h k).own ≡ r
unfolding drop_at
drop_refusal r h k =
    by_test (record_intact r)
    (λ p. rw p (λ n. let o = drop_of (world (record_at r) h k) in sym (kept_record r o.answer o.world.own n)))
    (λ p. rw p (λ n. refl))

intact_after : (r : List ℕ) (o : Outcome) → record_intact r ≡ true → record_intact (record_after r o.answer o.world.own) ≡ true
intact_after r o s =
    pick_cases (λ (b : List ℕ). record_intact b ≡ true) (eqb o.answer success) (λ e. record_intact_lem o.world.own) (λ e. s)

-- an intact record stays intact
pub command_intact : (r h k : List ℕ) (candidate : Candidate) (words : Words) (buf : List ℕ) → record_intact r ≡ true
    → record_intact (command_at r h k candidate words buf).own ≡ true
unfolding command_at
command_intact r h k candidate words buf s = rw s (intact_after r (command_of (world (record_at r) h k) candidate words buf) s)

pub capture_intact : (r h k : List ℕ) (candidate : Candidate) → record_intact r ≡ true → record_intact (capture_at r h k candidate).own ≡ true
unfolding capture_at
capture_intact r h k candidate s = rw s (intact_after r (capture_of (world (record_at r) h k) candidate) s)

pub drop_intact : (r h k : List ℕ) → record_intact r ≡ true → record_intact (drop_at r h k).own ≡ true
unfolding drop_at
drop_intact r h k s = rw s (intact_after r (drop_of (world (record_at r) h k)) s)
