-- What the builder builds, the reader of words reads back to the arguments.
-- Assumes nothing.
use Rattle.std.specs.Prelude.{ℕ, ◌+◌, ◌-◌, ◌*◌, ◌/◌, ◌%◌, ◌≤◌, ◌<◌, ◌≡◌, refl, Bool, true, false, ◌&&◌, eqb}
use Rattle.std.proofs.Common.{sym, ◌∙◌, arith, leb-true, eqb-true}
use Rattle.choices.specs.Choice.{pick}
use Rattle.choices.specs.Tests.{each, or_cases, clash}
use Rattle.answers.specs.Answers.{success, bad_setup}
use Rattle.pages.specs.Pages.{block, most4}
use Rattle.words.specs.declared.Words.{Words}
use Rattle.words.specs.declared.Command.{Command}
use Rattle.words.specs.Words.{most_blocks, taken, built_of, packed_of, no_words, read_of}

-- the bounds of arguments that are taken
pub record Bounds (mcda offset blocks : ℕ) : Type 0 where
  pub area : mcda ≤ 4
  pub some : 1 ≤ blocks
  pub most : blocks ≤ most_blocks
  pub place : offset ≤ most4

pub taken_bounds : (page : ℕ) (create : Bool) (mcda offset blocks : ℕ) → taken page create mcda offset blocks ≡ true
    → Bounds mcda offset blocks
unfolding taken
taken_bounds page create mcda offset blocks e =
    record {
      area = leb-true _ _ (each _ e 2);
      some = leb-true _ _ (each _ e 4);
      most = leb-true _ _ (each _ e 5);
      place = leb-true _ _ (each _ e 6);
    }

-- what the builder answers where its test is known
pub built_yes : (page : ℕ) (create : Bool) (mcda : ℕ) (rae : Bool) (offset blocks : ℕ) (t : Bool) (w : Words)
    → t ≡ taken page create mcda offset blocks → t ≡ true → w ≡ packed_of page create mcda rae offset blocks
    → record { answer = success; words = w } ≡ built_of page create mcda rae offset blocks
unfolding built_of
built_yes page create mcda rae offset blocks t w e f g = rw (sym e ∙ f, g)

pub built_no : (page : ℕ) (create : Bool) (mcda : ℕ) (rae : Bool) (offset blocks : ℕ) (t : Bool) (w : Words)
    → t ≡ taken page create mcda offset blocks → t ≡ false → w ≡ no_words
    → record { answer = bad_setup; words = w } ≡ built_of page create mcda rae offset blocks
unfolding built_of
built_no page create mcda rae offset blocks t w e f g = rw (sym e ∙ f, g)

-- the command that a builder's arguments mean
abbrev pub meant : ℕ → Bool → ℕ → Bool → ℕ → ℕ → Command
meant page create mcda rae offset blocks = record {
  page = page;
  create = create;
  mcda = mcda;
  rae = rae;
  bytes = block * blocks;
  offset = block * offset;
  indexed = false;
}

-- the five fields of CDW10, apart again
record Apart (w page create mcda rae count : ℕ) : Type 0 where
  page_back : w % 256 ≡ page
  create_back : w / 256 % 2 ≡ create
  mcda_back : w / 512 % 8 ≡ mcda
  rae_back : w / 32768 % 2 ≡ rae
  long_back : w / 65536 % 65536 ≡ count
  short_back : w / 65536 % 4096 ≡ count % 4096

apart : (w page create mcda rae count : ℕ) → page ≤ 255 → create ≤ 1 → mcda ≤ 7 → rae ≤ 1 → count < 65536
    → w ≡ page + 256 * create + 512 * mcda + 32768 * rae + 65536 * count → Apart w page create mcda rae count
apart w page create mcda rae count p q r s t e = record {
  page_back = omega arith;
  create_back = omega arith;
  mcda_back = omega arith;
  rae_back = omega arith;
  long_back = omega arith;
  short_back = omega arith;
}

-- a bit as a number
abbrev bit : Bool → ℕ
bit t = pick t 1 0

bit_small : (t : Bool) → bit t ≤ 1
bit_small true = omega arith
bit_small false = omega arith

bit_back : (t : Bool) → eqb (bit t) 1 ≡ t
bit_back true = refl
bit_back false = refl

bit_scaled : (t : Bool) (v : ℕ) → pick t v 0 ≡ v * bit t
bit_scaled true v = omega arith
bit_scaled false v = omega arith

created : (page : ℕ) (t : Bool) → (t ≡ true → page ≡ 7) → eqb page 7 && eqb (bit t) 1 ≡ t
created page true h = rw (h refl)
created page false h = and_no (eqb page 7)
  where
    and_no : (a : Bool) → a && false ≡ false
    and_no true = refl
    and_no false = refl

length_back : (extended : Bool) (w blocks : ℕ) → 1 ≤ blocks → blocks ≤ 8192 → (extended ≡ false → blocks ≤ 32)
    → w / 65536 % 65536 ≡ (128 * blocks - 1) % 65536
    → w / 65536 % 4096 ≡ (128 * blocks - 1) % 65536 % 4096
    → pick extended (4 * (w / 65536 % 65536 + 65536 * ((128 * blocks - 1) / 65536 % 65536) + 1)) (4 * (w / 65536 % 4096 + 1)) ≡ 512 * blocks
length_back true w blocks p q h e f = omega arith
length_back false w blocks p q h e f = let s = h refl in omega arith

packed_back : (extended : Bool) (page : ℕ) (create : Bool) (mcda : ℕ) (rae : Bool) (offset blocks : ℕ) → page ≤ 255
    → (create ≡ true → page ≡ 7) → Bounds mcda offset blocks → (extended ≡ false → blocks ≤ 32)
    → read_of extended (packed_of page create mcda rae offset blocks) ≡ meant page create mcda rae offset blocks
packed_back extended page create mcda rae offset blocks small host b few =
    let w = (packed_of page create mcda rae offset blocks).cdw10 in
    let k : Apart w page (bit create) mcda (bit rae) ((128 * blocks - 1) % 65536) =
    apart w page (bit create) mcda (bit rae) ((128 * blocks - 1) % 65536) small (bit_small create) (omega arith) (bit_small rae) (omega arith)
    (omega (arith, bit_scaled create 256, bit_scaled rae 32768)) in
    let made : eqb (w % 256) 7 && eqb (w / 256 % 2) 1 ≡ create = rw (k.page_back, k.create_back) (created page create host) in
    let kept : eqb (w / 32768 % 2) 1 ≡ rae = rw k.rae_back (bit_back rae) in
    let long = length_back extended w blocks b.some b.most few k.long_back k.short_back in
    let far : block * offset + 4294967296 * 0 ≡ block * offset = omega arith in
    cc (k.page_back, k.mcda_back)

page_two : (page : ℕ) (create : Bool) (mcda offset blocks : ℕ) → taken page create mcda offset blocks ≡ true → page ≤ 8
unfolding taken
page_two page create mcda offset blocks e =
    or_cases (eqb page 7) (eqb page 8) (each _ e 0)
    (λ p. let q = eqb-true page 7 p in omega arith)
    (λ p. let q = eqb-true page 8 p in omega arith)

create_host : (page : ℕ) (create : Bool) (mcda offset blocks : ℕ) → taken page create mcda offset blocks ≡ true → create ≡ true → page ≡ 7
unfolding taken
create_host page create mcda offset blocks e c =
    or_cases (eqb page 7) (eqb page 8) (each _ e 0)
    (λ p. eqb-true page 7 p)
    (λ p. clash (each _ e 1) (rw (c, p)))

-- Arguments that are taken are answered 0, and their words are read back to them; with extended data off, up to 32 blocks.
pub built_back : (extended : Bool) (page : ℕ) (create : Bool) (mcda : ℕ) (rae : Bool) (offset blocks : ℕ)
    → taken page create mcda offset blocks ≡ true
    → (extended ≡ false → blocks ≤ 32)
    → ((built_of page create mcda rae offset blocks).answer ≡ success)
    × (read_of extended (built_of page create mcda rae offset blocks).words ≡ meant page create mcda rae offset blocks)
unfolding built_of
built_back extended page create mcda rae offset blocks e few =
    let two = page_two page create mcda offset blocks e in
    rw e (
      refl,
      packed_back extended page create mcda rae offset blocks (omega arith) (create_host page create mcda offset blocks e)
          (taken_bounds page create mcda offset blocks e) few,
    )
