-- What follows, across the C boundary: the words that stand in the bytes of struct bumbazeel_next are those of the command, and its kind and numbers
-- are those of what follows.
-- Assumes nothing.
use Rattle.std.specs.Prelude.{ℕ, ◌^◌, ◌≤◌, ◌<◌, ◌≡◌, refl, List, Bool, length}
use Rattle.std.proofs.Common.{sym, subst, arith}
use Rattle.choices.specs.Choice.{pick, pick_cases, one}
use Rattle.choices.specs.Tests.{same_or_not, each}
use Rattle.littleendian.specs.Numbers.{value_at}
use Rattle.littleendian.specs.Back.{value_back}
use Rattle.answers.specs.Answers.{success}
use Rattle.pages.specs.Laws.{by_page}
use Rattle.words.specs.declared.Words.{Words}
use Rattle.words.specs.Words.{Built}
use Rattle.words.specs.Words.{taken, no_words, built_of}
use Rattle.words.specs.Back.{taken_bounds}
use Rattle.plans.specs.declared.Plan.{Plan}
use Rattle.plans.specs.Plans.{setup_answer}
use Rattle.phases.specs.Asked.{words_by}
use Rattle.completions.specs.declared.Seen.{Seen}
use Rattle.judgement.specs.declared.Move.{Move}
use Rattle.judgement.specs.declared.Move.TheVariants.{End, Open, More, Skip, Acknowledge}
use Rattle.endings.specs.Endings.{newer_of}
use Rattle.collection.specs.declared.Collection.{Collection}
use Rattle.collection.specs.declared.Finish.{Finish}
use Rattle.collection.specs.Told.{Next}
use Rattle.collection.specs.declared.Next.TheVariants.{Send, End as Ends, Refuse}
use Rattle.collection.specs.Told.{Stepped}
use Rattle.collection.specs.Collection.{awaited_of, refusal_of, look_of, move_of, setup_of, step_of, answer_of, fault_said}
use Rattle.collection.specs.Steps.{makes, refused_step, taken_step, setup_taken, setup_refused}
use Rattle.shared_layouts.specs.Layouts.{fault_number}
use Rattle.next_layout.specs.Layout.{ending, kind_of, next_parts, next_bytes}
use Rattle.c_calls.specs.Calls.{kind_in, answer_in, newer_in, field_in, words_in}

-- five words that four bytes each can hold
pub record Small (w : Words) : Type 0 where
  pub cdw10 : w.cdw10 < 256 ^ 4
  pub cdw11 : w.cdw11 < 256 ^ 4
  pub cdw12 : w.cdw12 < 256 ^ 4
  pub cdw13 : w.cdw13 < 256 ^ 4
  pub cdw14 : w.cdw14 < 256 ^ 4

no_words_small : Small no_words
no_words_small = record { cdw10 = omega arith; cdw11 = omega arith; cdw12 = omega arith; cdw13 = omega arith; cdw14 = omega arith }

flag_most : (t : Bool) (n : ℕ) → pick t n 0 ≤ n
flag_most t n = pick_cases (λ (x : ℕ). x ≤ n) t (λ e. omega arith) (λ e. omega arith)

-- the builder's are
built_small : (page : ℕ) (create : Bool) (mcda : ℕ) (rae : Bool) (offset blocks : ℕ) → Small (built_of page create mcda rae offset blocks).words
unfolding built_of taken
built_small page create mcda rae offset blocks =
    pick_cases (λ (b : Built). Small b.words) (taken page create mcda offset blocks)
    (λ e.
    let b = taken_bounds page create mcda offset blocks e in
    let p : page ≤ 8 = by_page (λ (n : ℕ). n ≤ 8) page (each _ e 0) (omega arith) (omega arith) in
    let c = flag_most create 256 in
    let r = flag_most rae 32768 in
    record {
      cdw10 = omega (arith, b.area);
      cdw11 = omega (arith, b.most);
      cdw12 = omega (arith, b.place);
      cdw13 = omega arith;
      cdw14 = omega arith;
    })
    (λ e. no_words_small)

awaited_small : (s : Collection) → Small (awaited_of s)
unfolding awaited_of words_by
awaited_small s = built_small _ _ _ _ _ _

-- the words of what follows, none where it is no command
abbrev pub words_said : Next → Words
words_said (Send w) = w
words_said (Ends e) = no_words
words_said (Refuse n) = no_words

makes_small : (s : Collection) (h : Seen) (m : Move) → Small (words_said (makes s h m).next)
unfolding makes
makes_small s h (End e next) = no_words_small
makes_small s h (Open next) = awaited_small _
makes_small s h (More at) = awaited_small _
makes_small s h Skip = awaited_small _
makes_small s h Acknowledge = awaited_small _

-- the words that a step gives are small
pub step_small : (s : Collection) (ok : Bool) (d : List ℕ) (n : ℕ) → Small (words_said (step_of s ok d n).next)
step_small s ok d n =
    same_or_not (refusal_of s ok (length d) n) success
    (λ r. subst (λ (x : Stepped). Small (words_said x.next)) (sym (taken_step s ok d n r)) (makes_small s (look_of s d) (move_of s ok (look_of s d))))
    (λ r. subst (λ (x : Stepped). Small (words_said x.next)) (sym (refused_step s ok d n r)) no_words_small)

-- and so are setup's
pub setup_small : (p : Plan) → Small (words_said (setup_of p).next)
setup_small p =
    same_or_not (setup_answer p) success
    (λ e. subst (λ (x : Stepped). Small (words_said x.next)) (sym (setup_taken p e)) (awaited_small _))
    (λ e. subst (λ (x : Stepped). Small (words_said x.next)) (sym (setup_refused p e)) no_words_small)

-- ---- what the bytes say

words_at : (kind answer newer field : ℕ) (w : Words) (count : ℕ) → Small w → words_in (next_parts kind answer newer field w count) ≡ w
unfolding next_parts
words_at kind answer newer field w count s =
    same (value_back 4 w.cdw10 s.cdw10) (value_back 4 w.cdw11 s.cdw11) (value_back 4 w.cdw12 s.cdw12)
    (value_back 4 w.cdw13 s.cdw13) (value_back 4 w.cdw14 s.cdw14)
  where
    same : {a b c d e : ℕ} → a ≡ w.cdw10 → b ≡ w.cdw11 → c ≡ w.cdw12 → d ≡ w.cdw13 → e ≡ w.cdw14
        → record { cdw10 = a; cdw11 = b; cdw12 = c; cdw13 = d; cdw14 = e } ≡ w
    same a b c d e = rw (a, b, c, d, e)

-- the words in the bytes are those that follow
pub words_back : (n : Next) → Small (words_said n) → words_in (next_bytes n) ≡ words_said n
unfolding next_bytes
words_back (Send w) s = words_at _ _ _ _ w _ s
words_back (Ends e) s = words_at _ _ _ _ no_words _ s
words_back (Refuse n) s = words_at _ _ _ _ no_words _ s

-- the kind in the bytes is that of what follows
pub kind_back : (n : Next) → kind_in (next_bytes n) ≡ kind_of n
unfolding next_bytes next_parts
kind_back (Send w) = refl
kind_back (Ends e) = refl
kind_back (Refuse n) = refl

-- `answer` is the number of what follows
pub answer_back : (n : Next) → answer_in (next_bytes n) ≡ answer_of n
unfolding next_bytes next_parts
answer_back (Send w) = refl
answer_back (Ends e) = refl
answer_back (Refuse a) = refl

-- `bad_field` is the number of what it says is at fault in a header
pub field_back : (n : Next) → field_in (next_bytes n) ≡ fault_number (fault_said n)
unfolding next_bytes next_parts
field_back (Send w) = refl
field_back (Ends e) = refl
field_back (Refuse a) = refl

-- `newer` is 1 where a newer capture was acknowledged unread
pub newer_back : (e : Finish) → newer_in (next_bytes (Ends e)) ≡ one (newer_of e.ending)
unfolding next_bytes next_parts
newer_back e = refl

-- `count` is its count
pub count_back : (e : Finish) → e.count < 256 ^ 8 → value_at 8 24 (next_bytes (Ends e)) ≡ e.count
unfolding next_bytes next_parts
count_back e h = value_back 8 e.count h
