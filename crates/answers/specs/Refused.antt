-- What the number of an answer says of it: success is 0, and no refusal is.
-- Assumes nothing.
use Rattle.std.specs.Prelude.{◌≡◌, refl, false, eqb, Result, Ok, Err, is_ok}
use Rattle.answers.specs.declared.Refusal.{Refusal}
use Rattle.answers.specs.declared.Refusal.TheVariants.{InvalidField, InvalidLogPage, ShortBuffer, Disagree, BrokenCandidate, NoArea4, NoRoom, Nothing, BadSetup, AlreadyEnded, DoesNotFit, OutOfReach, TotalFull}
use Rattle.answers.specs.Answers.{success, refusal_number, result_number}

-- no refusal has the number of a success
pub refused_is : (r : Refusal) → eqb (refusal_number r) success ≡ false
refused_is InvalidField = refl
refused_is (InvalidLogPage class) = refl
refused_is ShortBuffer = refl
refused_is Disagree = refl
refused_is BrokenCandidate = refl
refused_is NoArea4 = refl
refused_is NoRoom = refl
refused_is Nothing = refl
refused_is BadSetup = refl
refused_is AlreadyEnded = refl
refused_is DoesNotFit = refl
refused_is OutOfReach = refl
refused_is TotalFull = refl

-- an answer gives what was asked for just where its number is a success's
pub ok_is : {A : Type 0} (r : Result A Refusal) → is_ok r ≡ eqb (result_number r) success
ok_is (Ok x) = refl
ok_is (Err r) = rw (refused_is r)
