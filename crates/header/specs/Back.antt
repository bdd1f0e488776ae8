-- What is written is read back: the check of a header's bytes gives the fields that it was written from. One theorem over both pages.
-- Assumes nothing.
use Rattle.std.specs.Prelude.{ℕ, ◌+◌, ◌*◌, ◌/◌, ◌%◌, ◌<◌, ◌≡◌, refl, List, [], ◌∷◌, ◌++◌, Bool, true, false, Option, Some, None, length, get_or, eqb}
use Rattle.std.proofs.Common.{sym, ap, ◌∙◌, arith, take_all}
use Rattle.choices.specs.Choice.{pick}
use Rattle.choices.specs.Tests.{each}
use Rattle.copies.specs.Parts.{zeros, put_at, put_end}
use Rattle.littleendian.specs.Numbers.{bytes_of, value_at}
use Rattle.arrays.specs.Arrays.{fours_of, reason_at}
use Rattle.littleendian.specs.Back.{value_back, first, both, join, low2, low3}
use Rattle.littleendian.specs.Puts.{then}
use Rattle.pages.specs.Pages.{host_page, block, per_page}
use Rattle.lastblocks.specs.Rule.{LastRule, last_rule}
use Rattle.header.specs.declared.Fields.{Fields}
use Rattle.header.specs.declared.Fault.{Fault}
use Rattle.header.specs.declared.Fault.TheVariants.{Length}
use Rattle.header.specs.Header.{numbers, marks, header_of, last_at, fields_of, fields_ok, faultless, field_fault, no_fields, checked_by, check_of}
use Rattle.header.specs.Faults.{faultless_none, faultless_fields, fault_short, fault_long}

-- ---- four bytes as one number

-- a number made of a low half and a high half
half_bytes : (p q : ℕ) → p < 65536 → bytes_of 4 (p + 65536 * q) ≡ bytes_of 2 p ++ bytes_of 2 q
half_bytes p q h =
    let e : (p + 65536 * q) / 256 ≡ p / 256 + 256 * q = omega arith in
    let f : (p / 256 + 256 * q) / 256 ≡ q = omega arith in
    rw (e, f) (first (omega arith) (first (omega arith) refl))

two_halves : (a b : ℕ) → bytes_of 4 (a % 65536 + 65536 * (b % 65536)) ≡ bytes_of 2 a ++ bytes_of 2 b
two_halves a b = half_bytes (a % 65536) (b % 65536) (omega arith) ∙ both (low2 a) (low2 b)

low_half : (a : ℕ) → bytes_of 4 (a % 65536) ≡ bytes_of 2 a ++ zeros 2
low_half a =
    let e : a % 65536 ≡ a % 65536 + 65536 * 0 = omega arith in
    ap (λ (x : ℕ). bytes_of 4 x) e ∙ half_bytes (a % 65536) 0 (omega arith) ∙ ap (λ (l : List ℕ). l ++ zeros 2) (low2 a)

-- a number of three bytes above a zero byte
three_above : (a : ℕ) → bytes_of 4 (256 * (a % 16777216)) ≡ 0 ∷ bytes_of 3 a
three_above a =
    let e : 256 * (a % 16777216) / 256 ≡ a % 16777216 = omega arith in
    first (omega arith) (ap (λ (x : ℕ). bytes_of 3 x) e ∙ low3 a)

-- bytes 0 to 19, the last sixteen from four numbers of four bytes
pub words_are : (oui : ℕ) (last : List ℕ) (page : ℕ)
    → (page ∷ zeros 3) ++ fours_of (256 * (oui % 16777216) ∷ (get_or last 0 0 % 65536 + 65536 * (get_or last 1 0 % 65536)) ∷ get_or last 2 0 % 65536 ∷ get_or last 3 0 ∷ [])
    ≡ numbers page oui last
words_are oui last page =
    ap (λ (l : List ℕ). (page ∷ zeros 3) ++ l)
    (join (three_above oui) (two_halves (get_or last 0 0) (get_or last 1 0)) (low_half (get_or last 2 0)) refl)

front_is : (f : Fields) (w : List ℕ) {o p : List ℕ} → ((page : ℕ) → (page ∷ zeros 3) ++ fours_of w ≡ numbers page f.oui f.last)
    → o ≡ put_at (f.page ∷ zeros 511) 4 (fours_of w) → p ≡ put_at o 380 (marks f)
    → p ≡ numbers f.page f.oui f.last ++ zeros 360 ++ marks f ++ zeros 128
unfolding put_at
front_is f w n e1 e2 = then 380 (marks f) e1 e2 ∙ ap (λ (l : List ℕ). l ++ zeros 360 ++ marks f ++ zeros 128) (n f.page)

-- the puts that write a header follow one another, and the reason ends where the header ends
pub write_is : (f : Fields) (w : List ℕ) {m o p r : List ℕ} → length f.reason ≡ 128
    → ((page : ℕ) → (page ∷ zeros 3) ++ fours_of w ≡ numbers page f.oui f.last) → m ≡ marks f
    → o ≡ put_at (f.page ∷ zeros 511) 4 (fours_of w) → p ≡ put_at o 380 m → r ≡ put_at p 384 f.reason
    → r ≡ header_of f
unfolding header_of
write_is f w {o = o} l n em e1 e2 e3 =
    let front : List ℕ = numbers f.page f.oui f.last ++ zeros 360 ++ marks f in
    e3
    ∙ ap (λ (x : List ℕ). put_at x 384 f.reason) (front_is f w n e1 (e2 ∙ ap (λ (x : List ℕ). put_at o 380 x) em))
    ∙ put_end (front ++ zeros 128) f.reason 384 (omega arith)

-- what stands in the parts of a number of four bytes
above_byte : (a b c d : ℕ) → a < 256 → (a + 256 * (b + 256 * (c + 256 * d))) / 256 ≡ b + 256 * (c + 256 * d)
above_byte a b c d h = omega arith

low_part : (a b c d : ℕ) → a < 256 → b < 256 → (a + 256 * (b + 256 * (c + 256 * d))) % 65536 ≡ a + 256 * b
low_part a b c d h k = omega arith

high_part : (a b c d : ℕ) → a < 256 → b < 256 → (a + 256 * (b + 256 * (c + 256 * d))) / 65536 ≡ c + 256 * d
high_part a b c d h k = omega arith

-- the fields, from what each call reads of bytes
pub fields_are : (page : ℕ) (h : List ℕ) → ((i : ℕ) → get_or h i 0 < 256) → {o w v u scope generation : ℕ} {reason : List ℕ}
    → o ≡ value_at 4 4 h → w ≡ value_at 4 8 h → v ≡ value_at 4 12 h → u ≡ value_at 4 16 h
    → reason ≡ reason_at 384 h → scope ≡ per_page page (get_or h 380 0) (get_or h 381 0)
    → generation ≡ per_page page (get_or h 381 0) 0
    → record { page = get_or h 0 0; oui = o / 256; last = w % 65536 ∷ w / 65536 ∷ v % 65536 ∷ u ∷ []; scope = scope; hostgeneration = generation; tcda = get_or h 382 0; controllergeneration = get_or h 383 0; reason = reason }
    ≡ fields_of page h
fields_are page h t o w v u r s g =
    let oui = above_byte (get_or h 4 0) (get_or h 5 0) (get_or h 6 0) (get_or h 7 0) (t 4) in
    let area1 = low_part (get_or h 8 0) (get_or h 9 0) (get_or h 10 0) (get_or h 11 0) (t 8) (t 9) in
    let area2 = high_part (get_or h 8 0) (get_or h 9 0) (get_or h 10 0) (get_or h 11 0) (t 8) (t 9) in
    let area3 = low_part (get_or h 12 0) (get_or h 13 0) (get_or h 14 0) (get_or h 15 0) (t 12) (t 13) in
    rw (o, w, v, u, r, s, g, oui, area1, area2, area3)

-- what a check answers of a header of another length, of one at fault, and of a good one
pub check_short : (page : ℕ) (da4s : Bool) (h : List ℕ) → (length h ≡ block → ⊥) → record { fault = Some Length; fields = no_fields } ≡ check_of page da4s h
unfolding check_of
check_short page da4s h l = rw (← fault_short page da4s h l)

check_long : (page : ℕ) (da4s : Bool) (h : List ℕ) (f : Fields) (x : Option Fault)
    → length h ≡ block → f ≡ fields_of page h → x ≡ field_fault page da4s f → checked_by x f ≡ check_of page da4s h
unfolding check_of
check_long page da4s h f x l e q =
    ap (λ (y : Option Fault). checked_by y f) q
    ∙ ap (λ (g : Fields). checked_by (field_fault page da4s g) g) e
    ∙ ap (λ (y : Option Fault). checked_by y (fields_of page h)) (fault_long page da4s h l)

pub check_bad : (page : ℕ) (da4s : Bool) (h : List ℕ) (f : Fields) (x : Option Fault) {t : Bool}
    → length h ≡ block → f ≡ fields_of page h → x ≡ field_fault page da4s f → t ≡ faultless x → t ≡ false
    → record { fault = x; fields = no_fields } ≡ check_of page da4s h
check_bad page da4s h f x l e q k b =
    let n : record { fault = x; fields = no_fields } ≡ checked_by x f = rw (sym k ∙ b) in n ∙ check_long page da4s h f x l e q

pub check_good : (page : ℕ) (da4s : Bool) (h : List ℕ) (f : Fields) (x : Option Fault) {t : Bool}
    → length h ≡ block → f ≡ fields_of page h → x ≡ field_fault page da4s f → t ≡ faultless x → t ≡ true
    → record { fault = x; fields = f } ≡ check_of page da4s h
check_good page da4s h f x l e q k b =
    let n : record { fault = x; fields = f } ≡ checked_by x f = rw (sym k ∙ b) in n ∙ check_long page da4s h f x l e q

-- fields that a header can carry: arrays of the lengths that their types say, an OUI of three bytes, and no host generation on 08h
pub record Carried (f : Fields) : Type 0 where
  pub oui : f.oui < 16777216
  pub four : length f.last ≡ 4
  pub host : eqb f.page host_page ≡ false → f.hostgeneration ≡ 0
  pub reason : length f.reason ≡ 128

four_of : (l : List ℕ) → length l ≡ 4 → get_or l 0 0 ∷ get_or l 1 0 ∷ get_or l 2 0 ∷ get_or l 3 0 ∷ [] ≡ l
four_of [] e = absurd (omega arith)
four_of (a ∷ []) e = absurd (omega arith)
four_of (a ∷ b ∷ []) e = absurd (omega arith)
four_of (a ∷ b ∷ c ∷ []) e = absurd (omega arith)
four_of (a ∷ b ∷ c ∷ d ∷ []) e = refl
four_of (a ∷ b ∷ c ∷ d ∷ x ∷ l) e = absurd (omega arith)

scope_back : (b : Bool) (s h : ℕ) → pick b (pick b s 0) (pick b h s) ≡ s
scope_back true s h = refl
scope_back false s h = refl

host_back : (b : Bool) (s h : ℕ) → (b ≡ false → h ≡ 0) → pick b (pick b h s) 0 ≡ h
host_back true s h e = refl
host_back false s h e = sym (e refl)

last_back : (f : Fields) (da4s : Bool) → length f.last ≡ 4 → LastRule da4s f.last → last_at (header_of f) ≡ f.last
unfolding header_of
last_back f da4s e r =
    let a1 = value_back 2 (get_or f.last 0 0) (omega arith) in
    let a2 = value_back 2 (get_or f.last 1 0) (omega arith) in
    let a3 = value_back 2 (get_or f.last 2 0) (omega arith) in
    let a4 = value_back 4 (get_or f.last 3 0) (omega arith) in
    simp (a1, a2, a3, a4) (four_of f.last e)

same_fields : (f : Fields) {oui scope hostgeneration : ℕ} {last reason : List ℕ}
    → oui ≡ f.oui → last ≡ f.last → scope ≡ f.scope → hostgeneration ≡ f.hostgeneration → reason ≡ f.reason
    → record { page = f.page; oui = oui; last = last; scope = scope; hostgeneration = hostgeneration; tcda = f.tcda; controllergeneration = f.controllergeneration; reason = reason } ≡ f
same_fields f o l s h r = rw (o, l, s, h, r)

fields_back : (f : Fields) (da4s : Bool) → Carried f → LastRule da4s f.last → fields_of f.page (header_of f) ≡ f
unfolding header_of
fields_back f da4s w r =
    same_fields f
    (value_back 3 f.oui w.oui)
    (last_back f da4s w.four r)
    (scope_back (eqb f.page host_page) f.scope f.hostgeneration)
    (host_back (eqb f.page host_page) f.scope f.hostgeneration w.host)
    (take_all 128 f.reason (omega (arith, w.reason)))

pub header_length : (f : Fields) → length f.reason ≡ 128 → length (header_of f) ≡ block
unfolding header_of
header_length f e = rw e

-- Demand 2: a header written from fields that a header can carry and that are no bad header's is checked to exactly those fields.
pub header_reads_back : (da4s : Bool) (f : Fields) → Carried f → fields_ok f.page da4s f ≡ true
    → check_of f.page da4s (header_of f) ≡ record { fault = None; fields = f }
unfolding fields_ok
header_reads_back da4s f w ok =
    sym
    (check_long f.page da4s (header_of f) f None (header_length f w.reason)
    (sym (fields_back f da4s w (last_rule da4s f.last (each _ ok 1))))
    (sym (faultless_none (field_fault f.page da4s f) (faultless_fields f.page da4s f ∙ ok))))
