-- What an answer of 0 tells of the numbers, and what gives an answer of 0.
-- Assumes nothing.
use Rattle.std.specs.Prelude.{ℕ, suc, ◌*◌, ◌≤◌, ◌<◌, ◌≡◌, refl, List, Bool, true, false, not, ◌&&◌, get_or, ltb, leb, eqb}
use Rattle.std.proofs.Common.{ap, arith, leb-true, ltb-true, ltb-false, eqb-true, le-ltb, lt-ltb}
use Rattle.std.proofs.lemmas.Bool.{not-false}
use Rattle.choices.specs.Choice.{pick}
use Rattle.choices.specs.Tests.{each, and_left, and_right, or_cases, clash}
use Rattle.answers.specs.Answers.{success, invalid_field, short_buffer, disagree, broken_candidate}
use Rattle.pages.specs.Pages.{telemetry_page, block, most4, last_of, size_of}
use Rattle.trimming.specs.Trimming.{top_of}
use Rattle.trimming.specs.Trimmed.{InOrder}
use Rattle.words.specs.declared.Command.{Command}
use Rattle.records.specs.declared.Record.{Record}
use Rattle.records.specs.Records.{agrees_with}
use Rattle.verdicts.specs.declared.Lent.{Lent}
use Rattle.verdicts.specs.Verdicts.{command_order, candidate_ok, field_bad, last_after, command_answer, capture_answer}

-- a candidate that is not broken, kept being the last block that is kept of it
pub record Whole (kept : ℕ) (a : List ℕ) (bytes reason store : ℕ) : Type 0 where
  pub order : InOrder a
  pub whole : bytes ≡ block * get_or a 3 0
  pub long : reason ≡ 128
  pub limit : kept ≤ most4
  pub room : block * kept ≤ store

pub candidate_whole : (kept : ℕ) (a : List ℕ) (bytes reason store : ℕ) → candidate_ok kept a bytes reason store ≡ true → Whole kept a bytes reason store
unfolding candidate_ok
candidate_whole kept a bytes reason store e =
    let one = leb (get_or a 0 0) (get_or a 1 0) in
    let two = leb (get_or a 1 0) (get_or a 2 0) in
    let three = leb (get_or a 2 0) (get_or a 3 0) in
    let sorted : one && two && three ≡ true = each _ e 0 in
    record {
      order = record {
        one_two = leb-true _ _ (and_left one two (and_left (one && two) three sorted));
        two_three = leb-true _ _ (and_right one two (and_left (one && two) three sorted));
        three_four = leb-true _ _ (and_right (one && two) three sorted);
        three_most = leb-true _ _ (each _ e 3);
        four_some = λ z. or_cases (eqb (get_or a 3 0) 0) (ltb 0 (get_or a 2 0)) (each _ e 4) (λ p. eqb-true _ _ p) (λ p. let q = ltb-true 0 (get_or a 2 0) p in absurd (omega arith));
      };
      whole = eqb-true _ _ (each _ e 1);
      long = eqb-true _ _ (each _ e 2);
      limit = leb-true _ _ (each _ e 5);
      room = leb-true _ _ (each _ e 6);
    }

passed : (t : Bool) (n m : ℕ) → pick t (suc n) m ≡ 0 → (t ≡ false) × (m ≡ 0)
passed true n m e = absurd (omega arith)
passed false n m e = (refl, e)

-- a create that is not broken
sound : (create fine : Bool) → create && not fine ≡ false → create ≡ true → fine ≡ true
sound true fine e h = not-false fine e
sound false fine e h = clash h refl

-- ---- a command

pub record Accepted (r : Record) (c : Command) (a : List ℕ) (lent : Lent) : Type 0 where
  pub agrees : agrees_with r lent.host lent.controller ≡ true
  pub served : telemetry_page c.page ≡ true
  pub telemetry : r.caps.telemetry ≡ true
  pub valid : field_bad r.caps c ≡ false
  pub candidate : c.create ≡ true → Whole (last_of (top_of r.caps c.mcda) a) a lent.bytes lent.reason lent.host
  pub near : c.offset ≤ size_of r.caps (last_after r c a)
  pub room : c.bytes ≤ lent.buf

pub accepted : (r : Record) (c : Command) (a : List ℕ) (lent : Lent) → command_answer r c a lent ≡ success → Accepted r c a lent
unfolding command_answer
accepted r c a lent e =
    let one = passed _ 3 _ e in
    let two = passed _ 1 _ one.1 in
    let three = passed _ 0 _ two.1 in
    let four = passed _ 4 _ three.1 in
    let five = passed _ 0 _ four.1 in
    let six = passed _ 2 _ five.1 in
    let asked : telemetry_page c.page && r.caps.telemetry ≡ true = not-false _ two.0 in
    record {
      agrees = not-false _ one.0;
      served = and_left (telemetry_page c.page) r.caps.telemetry asked;
      telemetry = and_right (telemetry_page c.page) r.caps.telemetry asked;
      valid = three.0;
      candidate = λ h. candidate_whole _ _ _ _ _ (sound c.create _ four.0 h);
      near = ltb-false _ _ five.0;
      room = ltb-false _ _ six.0;
    }

-- where no test holds the answer is success
silent : {d u i b y s : Bool} → d ≡ false → u ≡ false → i ≡ false → b ≡ false → y ≡ false → s ≡ false
    → command_order d u i b y s ≡ success
silent d u i b y s = rw (d, u, i, b, y, s)

silent_but_fifth : {d u i b y : Bool} (s : Bool) → d ≡ false → u ≡ false → i ≡ false → b ≡ false → y ≡ true
    → command_order d u i b y s ≡ invalid_field
silent_but_fifth s d u i b y = rw (d, u, i, b, y)

both : (a b : Bool) → a ≡ true → b ≡ true → a && b ≡ true
both a b p q = rw (p, q)

-- a command that nothing speaks against but its offset
pub record Fair (r : Record) (c : Command) (a : List ℕ) (lent : Lent) : Type 0 where
  pub agrees : agrees_with r lent.host lent.controller ≡ true
  pub served : telemetry_page c.page ≡ true
  pub telemetry : r.caps.telemetry ≡ true
  pub valid : field_bad r.caps c ≡ false
  pub candidate : c.create && not (candidate_ok (last_of (top_of r.caps c.mcda) a) a lent.bytes lent.reason lent.host) ≡ false
  pub room : c.bytes ≤ lent.buf

pub accepts : (r : Record) (c : Command) (a : List ℕ) (lent : Lent) → Fair r c a lent → c.offset ≤ size_of r.caps (last_after r c a)
    → command_answer r c a lent ≡ success
unfolding command_answer
accepts r c a lent f o =
    silent (ap not f.agrees) (ap not (both _ _ f.served f.telemetry)) f.valid f.candidate (le-ltb _ _ o) (le-ltb _ _ f.room)

pub beyond_refused : (r : Record) (c : Command) (a : List ℕ) (lent : Lent) → Fair r c a lent → size_of r.caps (last_after r c a) < c.offset
    → command_answer r c a lent ≡ invalid_field
unfolding command_answer
beyond_refused r c a lent f o =
    silent_but_fifth (ltb lent.buf c.bytes) (ap not f.agrees) (ap not (both _ _ f.served f.telemetry)) f.valid f.candidate (lt-ltb _ _ o)

-- ---- a command that is refused for no lent data

not_this : (t : Bool) (n m : ℕ) → (pick t n m ≡ n → ⊥) → t ≡ false
not_this true n m h = absurd (h refl)
not_this false n m h = refl

-- without 4 record and stores agree
pub unless_disagree : (r : Record) (c : Command) (a : List ℕ) (lent : Lent) → (command_answer r c a lent ≡ disagree → ⊥)
    → agrees_with r lent.host lent.controller ≡ true
unfolding command_answer
unless_disagree r c a lent n = not-false _ (not_this _ _ _ n)

-- without 3, 4 and 5 a command that nothing else speaks against brings no broken candidate, and a buffer for all that starts within the page
last_three : {d u i : Bool} (b y s : Bool) → d ≡ false → u ≡ false → i ≡ false → (command_order d u i b y s ≡ short_buffer → ⊥)
    → (command_order d u i b y s ≡ broken_candidate → ⊥)
    → (b ≡ false) × (y ≡ false → s ≡ false)
last_three {d} {u} {i} b y s p q r = rw (p, q, r) (by b y s)
  where
    by : (b y s : Bool) → (command_order false false false b y s ≡ short_buffer → ⊥) → (command_order false false false b y s ≡ broken_candidate → ⊥)
        → (b ≡ false) × (y ≡ false → s ≡ false)
    by true y s m n = absurd (n refl)
    by false true s m n = (refl, λ e. clash {t = true} refl e)
    by false false true m n = absurd (m refl)
    by false false false m n = (refl, λ e. refl)

pub spared : (r : Record) (c : Command) (a : List ℕ) (lent : Lent) → agrees_with r lent.host lent.controller ≡ true → telemetry_page c.page ≡ true
    → r.caps.telemetry ≡ true → field_bad r.caps c ≡ false
    → (command_answer r c a lent ≡ short_buffer → ⊥) → (command_answer r c a lent ≡ broken_candidate → ⊥)
    → (c.create && not (candidate_ok (last_of (top_of r.caps c.mcda) a) a lent.bytes lent.reason lent.host) ≡ false)
    × (c.offset ≤ size_of r.caps (last_after r c a) → c.bytes ≤ lent.buf)
unfolding command_answer
spared r c a lent g s t v m n =
    let l = last_three _ _ _ (ap not g) (ap not (both _ _ s t)) v m n in
    (l.0, λ h. ltb-false _ _ (l.1 (le-ltb _ _ h)))

-- ---- a capture on 08h

pub record Captures (r : Record) (a : List ℕ) (lent : Lent) : Type 0 where
  pub agrees : agrees_with r lent.host lent.controller ≡ true
  pub candidate : Whole (last_of (top_of r.caps 0) a) a lent.bytes lent.reason lent.controller
  pub some : 0 < get_or a 2 0

pub captures : (r : Record) (a : List ℕ) (lent : Lent) → capture_answer r a lent ≡ success → Captures r a lent
unfolding capture_answer
captures r a lent e =
    let one = passed _ 3 _ e in
    let two = passed _ 4 _ one.1 in
    let fine = not-false _ two.0 in
    record {
      agrees = not-false _ one.0;
      candidate = candidate_whole _ _ _ _ _ (and_left _ (ltb 0 (get_or a 2 0)) fine);
      some = ltb-true _ _ (and_right (candidate_ok (last_of (top_of r.caps 0) a) a lent.bytes lent.reason lent.controller) _ fine);
    }
