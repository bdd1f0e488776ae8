-- An array made by a function of the index that changes nothing.
-- Assumes nothing.
use Rattle.std.specs.Prelude.{ℕ, zero, suc, ◌+◌, ◌≤◌, ◌<◌, ◌≡◌, List, map, get_or}
use Rattle.std.specs.List.{range_with_len}
use Rattle.std.specs.Iterator.{ActsAs}
use Rattle.std.specs.Array.{IsFromFnResult, IsFromFnResultFrom}
use Rattle.std.proofs.Common.{arith, subst, ◌∙◌}
use Rattle.std.proofs.lemmas.List.FromFn.{fill_by_all}
use Rattle.std.proofs.Math.Nat.{eq-or-lt_of_le}
use mathlib.Core.Logic.{inl, inr}
use denote.Param.Members.{Mut}

module _ {F B : Type 0} (g : Mut F (ℕ × Unit {0}) B) (f : F) (h : ℕ → B) (acts : ActsAs g f h) where
  made_from : (ys : List B) (i n k : ℕ) (d : B) → IsFromFnResultFrom g f ys i n → i ≤ k → k < i + n → get_or ys k d ≡ h k
  made_from ys i zero k d t l m = absurd (omega arith)
  made_from ys i (suc n) k d (q, y, e, c, t) l m =
      elim (eq-or-lt_of_le l) [
        | inl same ↦ subst (λ (j : ℕ). get_or ys j d ≡ h j) same (e.1 d ∙ (acts i y q c).1)
        | inr past ↦ made_from ys (i + 1) n k d (subst (λ (p : F). IsFromFnResultFrom g p ys (i + 1) n) (acts i y q c).0 t) (omega arith) (omega arith)
      ]

  pub made : (ys : List B) (n : ℕ) (d : B) → IsFromFnResult g f ys n → ys ≡ map h (range_with_len 0 n)
  made ys n d r = fill_by_all h ys n d r.long (λ k l. made_from ys 0 n k d r.each (omega arith) (omega arith))
