-- `answers::class_digit` meets its contract: that each entry is the digit of its identifier's class is one test, which antt computes over
-- the code's own table, and a u8 is below the table's length.
-- Assumes nothing.
use mathlib.Core.Path.{◌≡◌}
use mathlib.Core.Bool.{Bool, true}
use mathlib.Core.List.{List}
use Prim.Native.Nat.{ℕ, ◌+◌, ◌-◌, ◌≤◌, ◌<◌}
use native.Mathlib.Omega.{arith}
use lib.Dec.{eqb}
use lib.ListN.{length, get_or}
use borrow.Author.Rules.{rules}
use borrow.Author.Tests.{eqb-true}
use Rattle.answers.specs.Classes.{class_of}
use Rattle.answers.proofs.Table.{every, at}
use Rattle.answers.proofs.class_digit.Goals as goal

-- x is the digit of k's class
abbrev right : ℕ → ℕ → Bool
right k x = eqb x (48 + class_of k)

-- a table that passes the test has at k the digit of k's class: at least '0', and above it by the class
module _ (xs : List ℕ) (e : every right 0 xs ≡ true) (k : ℕ) (h : k < length xs) where
  digit : get_or xs k 0 ≡ 48 + class_of k
  digit = eqb-true (get_or xs k 0) (48 + class_of k) (at right xs e k h)

  digit-least : 48 ≤ get_or xs k 0
  digit-least = omega (arith, digit)

  digit-class : get_or xs k 0 - 48 ≡ class_of k
  digit-class = omega (arith, digit)

pub returns : goal.returns
returns c = search (rules, digit-class)

pub overflow_sub-result : goal.overflow_sub-result
overflow_sub-result c = search (rules, digit-least)
