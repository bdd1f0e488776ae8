-- The wanted area of a controller, in its bytes.
-- Assumes nothing.
use Rattle.std.specs.Prelude.{ℕ, zero, suc, ◌+◌, ◌-◌, ◌*◌, ◌≤◌, ◌≡◌, List, length, take, eqb}
use Rattle.std.proofs.Math.Path.{ap}
use Rattle.std.proofs.Common.{◌∙◌, arith}
use Rattle.choices.specs.Tests.{by_test}
use Rattle.littleendian.specs.Numbers.{value_at}
use Rattle.arrays.specs.Arrays.{fours_at}
use Rattle.answers.specs.Answers.{success}
use Rattle.pages.specs.Pages.{host_page, block, last_of}
use Rattle.records.specs.Records.{host_fields, controller_fields, fields_for}
use Rattle.plans.specs.declared.Plan.{Plan}
use Rattle.plans.specs.Plans.{setup_answer, area_last}
use Rattle.plans.specs.Limits.{plan_limits}
use Rattle.controller.specs.Controller.{store_for}
use Rattle.demand3.specs.Shown.{shows_for, wanted_area, area_long, area_stored}
use Rattle.record_layout.specs.Layout.{record_at}
use Rattle.c_calls.specs.Calls.{Controller, last_in, area_in}
use Rattle.c_calls.specs.Same.{world_at, Fit}

four_last : (i area : ℕ) (own : List ℕ) → 1 ≤ area → area ≤ 4 → last_of area (fours_at i own) ≡ value_at 4 (i + 4 * (area - 1)) own
four_last i zero own l h = absurd (omega arith)
four_last i (suc zero) own l h = ap (λ (n : ℕ). value_at 4 n own) (omega arith)
four_last i (suc (suc zero)) own l h = ap (λ (n : ℕ). value_at 4 n own) (omega arith)
four_last i (suc (suc (suc zero))) own l h = ap (λ (n : ℕ). value_at 4 n own) (omega arith)
four_last i (suc (suc (suc (suc zero)))) own l h = ap (λ (n : ℕ). value_at 4 n own) (omega arith)
four_last i (suc (suc (suc (suc (suc n))))) own l h = absurd (omega arith)

module _ (p : Plan) (e : setup_answer p ≡ success) (b : Controller) where
  -- the last block of the wanted area is the one in the record's bytes
  pub last_is : area_last p (fields_for p.page (record_at b.own)).last ≡ last_in p.page p.area b
  unfolding fields_for host_fields controller_fields record_at
  last_is =
      let l = plan_limits p e in
      by_test (eqb p.page host_page)
      (λ h. rw h (four_last 12 p.area b.own l.area_low l.area_high))
      (λ h. rw h (four_last 28 p.area b.own l.area_low l.area_high))

  -- the area is the store's beginning, up to that block
  pub area_is : Fit p b → wanted_area p (world_at b) ≡ area_in p.page p.area b
  area_is f = area_stored p (world_at b) f.good e ∙ ap (λ (n : ℕ). take (block * n) (store_for p.page (world_at b))) last_is

  -- and is so long
  pub long_is : length (wanted_area p (world_at b)) ≡ block * last_in p.page p.area b
  unfolding shows_for
  long_is = area_long p (world_at b) ∙ ap (λ (n : ℕ). block * n) last_is
