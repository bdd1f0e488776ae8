-- The phases of a collection, in one table of what each of them is. A predicate on phases is a column of it, and what follows from one column
-- for another is said here once.
-- Assumes nothing.
use Rattle.std.specs.Prelude.{ℕ, ◌≡◌, refl, Bool, true, false, ◌||◌}
use Rattle.std.proofs.Common.{sym, ap}
use Rattle.choices.specs.Tests.{clash}
use Rattle.words.specs.declared.Ask.{Ask}
use Rattle.phases.specs.declared.Phase.{Phase}
use Rattle.phases.specs.declared.Phase.TheVariants.{First, Chunk, Close, Ack, Ended}

-- what is awaited: the first header, a header that is judged, one that closes an attempt, after a refused chunk, the acknowledgement, nothing
pub record Role : Type 0 where
  pub first : Bool
  pub judged : Bool
  pub closing : Bool
  pub refused : Bool
  pub acknowledging : Bool
  pub ended : Bool

abbrev role : Bool → Bool → Bool → Bool → Bool → Bool → Role
role first judged closing refused acknowledging ended =
    record { first = first; judged = judged; closing = closing; refused = refused; acknowledging = acknowledging; ended = ended }

--                     first judged closing refused acknowledging ended
abbrev pub role_of : Phase → Role
role_of First = role true true false false false false
role_of (Chunk at) = role false false false false false false
role_of (Close after) = role false true true after false false
role_of Ack = role false false false false true false
role_of Ended = role false false false false false true

-- the first header is awaited
abbrev pub first_by : Phase → Bool
first_by f = (role_of f).first

-- a header that is judged is awaited: the first one, or one that closes an attempt
abbrev pub judged_by : Phase → Bool
judged_by f = (role_of f).judged

-- a header that closes an attempt is awaited
abbrev pub closing_by : Phase → Bool
closing_by f = (role_of f).closing

-- one after a refused chunk
abbrev pub refused_by : Phase → Bool
refused_by f = (role_of f).refused

-- the acknowledgement is awaited
abbrev pub ack_by : Phase → Bool
ack_by f = (role_of f).acknowledging

-- nothing is awaited any more
abbrev pub ended_by : Phase → Bool
ended_by f = (role_of f).ended

-- the acknowledgement or nothing is awaited: no step sends a command any more
abbrev pub silent_by : Phase → Bool
silent_by f = ack_by f || ended_by f

-- what a phase asks for
abbrev pub asked : Bool → ℕ → Bool → ℕ → ℕ → Ask
asked create mcda rae offset blocks = record { create = create; mcda = mcda; rae = rae; offset = offset; blocks = blocks }

-- ---- what one column says of another

-- a closing header is judged, no acknowledgement, and not after the ending
pub record Closing (f : Phase) : Type 0 where
  pub judged : judged_by f ≡ true
  pub no_ack : ack_by f ≡ false
  pub going : ended_by f ≡ false
  pub is : f ≡ Close (refused_by f)

pub closing_is : (f : Phase) → closing_by f ≡ true → Closing f
closing_is First e = clash {t = true} refl (sym e)
closing_is (Chunk at) e = clash {t = true} refl (sym e)
closing_is (Close after) e = record { judged = refl; no_ack = refl; going = refl; is = refl }
closing_is Ack e = clash {t = true} refl (sym e)
closing_is Ended e = clash {t = true} refl (sym e)

-- a header that is judged is the first one or a closing one, and is not after the ending
pub by_header : {A : Type 0} (f : Phase) → judged_by f ≡ true → (f ≡ First → A) → (closing_by f ≡ true → A) → A
by_header First e a c = a refl
by_header (Chunk at) e a c = clash {t = true} refl (sym e)
by_header (Close after) e a c = c refl
by_header Ack e a c = clash {t = true} refl (sym e)
by_header Ended e a c = clash {t = true} refl (sym e)

pub judged_going : (f : Phase) → judged_by f ≡ true → ended_by f ≡ false
judged_going f e = by_header f e (λ p. ap ended_by p) (λ c. (closing_is f c).going)

-- by what is awaited
pub by_phase : {A : Type 0} (f : Phase) → (f ≡ First → A) → ((at : ℕ) → f ≡ Chunk at → A) → (closing_by f ≡ true → A) → (f ≡ Ack → A)
    → (f ≡ Ended → A) → A
by_phase First a b c d e = a refl
by_phase (Chunk at) a b c d e = b at refl
by_phase (Close after) a b c d e = c refl
by_phase Ack a b c d e = d refl
by_phase Ended a b c d e = e refl
