-- Document 01, "Answer numbers": the identifier classes, by ranges, and how many identifiers each has.
-- Assumes nothing.
use Rattle.std.specs.Prelude.{ℕ, zero, suc, ◌+◌, ◌≡◌, refl, Bool, ◌&&◌, ◌||◌, [], ◌∷◌, map, leb, eqb}
use Rattle.choices.specs.Choice.{pick}
use Rattle.answers.specs.declared.PageClass.{PageClass}
use Rattle.answers.specs.declared.PageClass.TheVariants.{Named, Elsewhere, Vendor, Reserved}

-- an identifier from low to high, both included
abbrev pub within : ℕ → ℕ → ℕ → Bool
within low high i = leb low i && leb i high

-- document 004 names the page: 00h-0Dh, 0Fh-18h, 1Ah-23h, 25h, 70h-73h, 7Fh-81h
abbrev pub named : ℕ → Bool
named i =
    within 0x00 0x0D i
    || within 0x0F 0x18 i
    || within 0x1A 0x23 i
    || within 0x25 0x25 i
    || within 0x70 0x73 i
    || within 0x7F 0x81 i

-- document 004 refers to another specification for the page: 0Eh, 19h, 82h-BFh
abbrev pub elsewhere : ℕ → Bool
elsewhere i = within 0x0E 0x0E i || within 0x19 0x19 i || within 0x82 0xBF i

-- the page is the vendor's: C0h-FFh
abbrev pub vendor : ℕ → Bool
vendor i = within 0xC0 0xFF i

-- the class of an identifier: 0 named, 1 elsewhere, 2 vendor, and 3 reserved, which is the rest
abbrev pub class_of : ℕ → ℕ
class_of i = pick (named i) 0 (pick (elsewhere i) 1 (pick (vendor i) 2 3))

-- the number of a class
abbrev pub class_number : PageClass → ℕ
class_number Named = 0
class_number Elsewhere = 1
class_number Vendor = 2
class_number Reserved = 3

-- how many identifiers below n have the class
abbrev pub count_below : ℕ → ℕ → ℕ
count_below zero class = 0
count_below (suc n) class = pick (eqb (class_of n) class) 1 0 + count_below n class

-- how many of the 256 identifiers have the class
abbrev pub count : ℕ → ℕ
count class = count_below 256 class

-- the counts are the document's
pub counts : map count (0 ∷ 1 ∷ 2 ∷ 3 ∷ []) ≡ 42 ∷ 64 ∷ 64 ∷ 86 ∷ []
counts = refl
