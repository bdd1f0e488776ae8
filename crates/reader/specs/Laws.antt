-- What the test for a block says of the numbers, and where a step leads.
-- Assumes nothing.
use Rattle.std.specs.Prelude.{ℕ, ◌+◌, ◌-◌, ◌≤◌, ◌<◌, ◌≡◌, true, false, Option, Some, None, is_some, leb, length, take, drop, List}
use Rattle.std.specs.Iterator.{MakesProgress, at_most}
use Rattle.std.proofs.Common.{sym, ap, ◌∙◌, arith, leb-true, le-leb}
use Rattle.choices.specs.Choice.{pick_cases}
use Rattle.choices.specs.Tests.{and_left, and_right, by_test}
use Rattle.pages.specs.Pages.{block}
use Rattle.reader.specs.declared.Reader.{Reader}
use Rattle.reader.specs.Reader.{Place, more_at, block_at, place_at, led_to, blocks_left}

pub more_holds : (n at : ℕ) → more_at n at ≡ true → at + block ≤ n
unfolding more_at
more_holds n at e =
    let a = leb-true at n (and_left (leb at n) (leb block (n - at)) e) in
    let b = leb-true block (n - at) (and_right (leb at n) (leb block (n - at)) e) in
    omega arith

pub more_yes : (n at : ℕ) → at + block ≤ n → more_at n at ≡ true
unfolding more_at
more_yes n at h = rw (le-leb at n (omega arith), le-leb block (n - at) (omega arith))

pub more_no : (n at : ℕ) → n < at + block → more_at n at ≡ false
more_no n at l = by_test (more_at n at) (λ e. let h = more_holds n at e in absurd (omega arith)) (λ e. e)

pub block_yes : (copy : List ℕ) (at : ℕ) → more_at (length copy) at ≡ true → block_at copy at ≡ take block (drop at copy)
unfolding block_at
block_yes copy at e = rw e

-- the step says whether there is a block
pub place_more : (n at : ℕ) → (place_at n at).more ≡ more_at n at
unfolding place_at
place_more n at = pick_cases (λ (p : Place). p.more ≡ more_at n at) (more_at n at) (λ e. sym e) (λ e. sym e)

pub place_yes : (n at : ℕ) → more_at n at ≡ true → place_at n at ≡ led_to at (Some (at + block))
unfolding place_at
place_yes n at e = rw e

pub place_no : (n at : ℕ) → more_at n at ≡ false → place_at n at ≡ led_to at None
unfolding place_at
place_no n at e = rw e

pub width : (at n : ℕ) → at + n - at ≡ n
width at n = omega arith

-- a step that led past a block, and one that led nowhere
pub record Led (n at after : ℕ) : Type 0 where
  pub more : more_at n at ≡ true
  pub by : after ≡ at + block
  pub wide : after - at ≡ block
  pub within : after ≤ n

pub led_on : (n at after : ℕ) → led_to at (Some after) ≡ place_at n at → Led n at after
led_on n at after e =
    let m : more_at n at ≡ true = sym (place_more n at) ∙ sym (ap (λ (p : Place). p.more) e) in
    let b : after ≡ at + block = ap (λ (p : Place). p.at) (e ∙ place_yes n at m) in
    let h = more_holds n at m in
    record { more = m; by = b; wide = ap (λ (n : ℕ). n - at) b ∙ width at block; within = omega arith }

pub led_nowhere : (n at : ℕ) → led_to at None ≡ place_at n at → more_at n at ≡ false
led_nowhere n at e = sym (place_more n at) ∙ sym (ap (λ (p : Place). p.more) e)

-- ---- a reader comes to its end

-- past a block, fewer are left
fewer : (n at : ℕ) → at + block ≤ n → blocks_left n (at + block) < blocks_left n at
fewer n at h = omega arith

-- the reader that has moved on past a block has fewer left
pub goes_on : {A : Type 0} (r : Reader) (b : Option A) (at : ℕ) → is_some b ≡ more_at (length r.copy.now) r.at → at ≡ (place_at (length r.copy.now) r.at).at
    → MakesProgress (λ (s : Reader). Unit {0}) (λ (s : Reader). at_most (blocks_left (length s.copy.now) s.at)) r b (record { copy = r.copy; at = at })
goes_on r None at e p = record { on = λ h. tt; keeps = tt; rests = λ h. tt }
goes_on r (Some x) at e p =
    let n = length r.copy.now in
    let m = sym e in
    let q : at ≡ r.at + block = p ∙ ap (λ (s : Place). s.at) (place_yes n r.at m) in
    record { on = λ h. (tt, tt, rw q (fewer n r.at (more_holds n r.at m))); keeps = tt; rests = λ h. tt }
