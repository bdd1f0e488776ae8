-- What setup's limits say of a plan's numbers, and when an area can be collected.
-- Assumes nothing.
use Rattle.std.specs.Prelude.{ℕ, ◌+◌, ◌%◌, ◌≤◌, ◌<◌, ◌≡◌, refl, List, [], ◌∷◌, Bool, true, false, not, ◌||◌, leb, eqb}
use Rattle.std.proofs.Common.{arith, leb-true, leb-false, eqb-true}
use Rattle.std.proofs.lemmas.Bool.{eqb-false}
use Rattle.choices.specs.Choice.{pick, first_that}
use Rattle.choices.specs.Tests.{holds, each, and_left, and_right, clash}
use Rattle.answers.specs.Answers.{success, no_area4, no_room, bad_setup, out_of_reach}
use Rattle.pages.specs.Pages.{block, most4}
use Rattle.words.specs.Words.{most_blocks}
use Rattle.plans.specs.declared.Plan.{Plan}
use Rattle.plans.specs.Plans.{most_attempts, most_room, chunk_taken, plan_tests, without_area4, setup_answer, area_last, area_bytes, fits_room, reach, in_reach, area_answer, fits, chunk_of, lead_of}

-- ---- a plan that setup takes, and a state that does not get 13

first_two : (a b : Bool) (m n : ℕ) → (m ≡ 0 → ⊥) → (n ≡ 0 → ⊥) → first_that ((not a, m) ∷ (b, n) ∷ []) 0 ≡ 0 → (a ≡ true) × (b ≡ false)
first_two true true m n f g e = absurd (g e)
first_two true false m n f g e = (refl, refl)
first_two false b m n f g e = absurd (f e)

pub plan_taken : (p : Plan) → setup_answer p ≡ success → (holds (plan_tests p) ≡ true) × (without_area4 p ≡ false)
unfolding setup_answer
plan_taken p e = first_two (holds (plan_tests p)) (without_area4 p) bad_setup no_area4 (λ x. omega arith) (λ x. omega arith) e

pub record Limits (p : Plan) : Type 0 where
  pub area_low : 1 ≤ p.area
  pub area_high : p.area ≤ 4
  pub blocks : p.chunk ≤ most_blocks
  pub chunk_low : 1 ≤ chunk_of p
  pub chunk_high : lead_of p + chunk_of p ≤ most_blocks
  pub chunk_old : p.caps.extended ≡ false → lead_of p + chunk_of p ≡ 32
  pub attempts_low : 1 ≤ p.attempts
  pub attempts_high : p.attempts ≤ most_attempts
  pub room : p.room ≤ most_room

-- the blocks of a chunk, with extended data or without, and those that its command reads before it
chunk_limits : (extended : Bool) (c : ℕ) → chunk_taken extended c ≡ true
    → (c ≤ most_blocks) × (1 ≤ pick extended c reach) × (pick extended 0 1 + pick extended c reach ≤ most_blocks)
chunk_limits true c e =
    let h = leb-true c most_blocks (and_right (leb 1 c) (leb c most_blocks) e) in
    (h, leb-true _ _ (and_left (leb 1 c) (leb c most_blocks) e), omega arith)
chunk_limits false c e = (omega (arith, eqb-true c 0 e), omega arith, omega arith)

pub plan_limits : (p : Plan) → setup_answer p ≡ success → Limits p
plan_limits p e =
    let h = (plan_taken p e).0 in
    let k = chunk_limits p.caps.extended p.chunk (each (plan_tests p) h 2) in
    record {
      area_low = leb-true _ _ (and_left (leb 1 p.area) (leb p.area 4) (each (plan_tests p) h 1));
      area_high = leb-true _ _ (and_right (leb 1 p.area) (leb p.area 4) (each (plan_tests p) h 1));
      blocks = k.0;
      chunk_low = k.1;
      chunk_high = k.2;
      chunk_old = λ o. rw o;
      attempts_low = leb-true _ _ (and_left (leb 1 p.attempts) (leb p.attempts most_attempts) (each (plan_tests p) h 3));
      attempts_high = leb-true _ _ (and_right (leb 1 p.attempts) (leb p.attempts most_attempts) (each (plan_tests p) h 3));
      room = leb-true _ _ (and_left (leb p.room most_room) (eqb (p.room % block) 0) (each (plan_tests p) h 4));
    }

-- ---- an area that can be collected

area_cases : {A : Type 0} (near room : Bool) → (near ≡ false → first_that ((not near, out_of_reach) ∷ (not room, no_room) ∷ []) success ≡ out_of_reach → A)
    → (near ≡ true → room ≡ false → first_that ((not near, out_of_reach) ∷ (not room, no_room) ∷ []) success ≡ no_room → A) → (near ≡ true → room ≡ true → A) → A
area_cases false room far large neither = far refl refl
area_cases true false far large neither = large refl refl refl
area_cases true true far large neither = neither refl refl

-- what can speak against it, and when
area_is : {A : Type 0} (p : Plan) (last : List ℕ) → (in_reach p last ≡ false → area_answer p last ≡ out_of_reach → A)
    → (in_reach p last ≡ true → fits_room p last ≡ false → area_answer p last ≡ no_room → A) → (in_reach p last ≡ true → fits_room p last ≡ true → A) → A
unfolding area_answer
area_is p last far large neither = area_cases (in_reach p last) (fits_room p last) far large neither

pub both_fit : (p : Plan) (last : List ℕ) → in_reach p last ≡ true → fits_room p last ≡ true → fits p last ≡ true
unfolding area_answer
both_fit p last n r = rw (n, r)

pub short_is : {A : Type 0} (p : Plan) (last : List ℕ) → fits p last ≡ false → (in_reach p last ≡ false → area_answer p last ≡ out_of_reach → A)
    → (in_reach p last ≡ true → fits_room p last ≡ false → area_answer p last ≡ no_room → A) → A
short_is p last l far large = area_is p last far large (λ n r. clash (both_fit p last n r) l)

pub unopposed_fits : (p : Plan) (last : List ℕ) → eqb (area_answer p last) out_of_reach ≡ false → eqb (area_answer p last) no_room ≡ false → fits p last ≡ true
unopposed_fits p last f l =
    area_is p last (λ n a. absurd (eqb-false _ out_of_reach f a)) (λ n r a. absurd (eqb-false _ no_room l a)) (λ n r. both_fit p last n r)

fits_both : (p : Plan) (last : List ℕ) → fits p last ≡ true → (in_reach p last ≡ true) × (fits_room p last ≡ true)
fits_both p last e =
    let s = eqb-true (area_answer p last) success e in
    area_is p last (λ n a. absurd (omega (arith, s, a))) (λ n r a. absurd (omega (arith, s, a))) (λ n r. (n, r))

pub fits_room_lem : (p : Plan) (last : List ℕ) → fits p last ≡ true → area_bytes p last ≤ p.room
unfolding fits_room
fits_room_lem p last e = leb-true (area_bytes p last) p.room (fits_both p last e).1

-- in an old run it is in reach
pub near_is : (p : Plan) (last : List ℕ) → in_reach p last ≡ true → p.caps.extended ≡ false → area_last p last ≤ reach
unfolding in_reach
near_is p last e o = leb-true (area_last p last) reach (rw o at e)

pub fits_reach : (p : Plan) (last : List ℕ) → fits p last ≡ true → p.caps.extended ≡ false → area_last p last ≤ reach
fits_reach p last e = near_is p last (fits_both p last e).0

-- out of reach is an area past block 31 of an old run
pub far_is : (p : Plan) (last : List ℕ) → in_reach p last ≡ false → (p.caps.extended ≡ false) × (reach < area_last p last)
unfolding in_reach
far_is p last e = far p.caps.extended e
  where
    far : (extended : Bool) → extended || leb (area_last p last) reach ≡ false → (extended ≡ false) × (reach < area_last p last)
    far true f = clash {t = true} refl f
    far false f = (refl, leb-false (area_last p last) reach f)

-- B is within the house limit where the area fits a copy within its limit
pub area_limit : (p : Plan) (last : List ℕ) → setup_answer p ≡ success → fits p last ≡ true → area_last p last ≤ most4
area_limit p last e f =
    let l = plan_limits p e in
    let r = fits_room_lem p last f in
    omega arith
