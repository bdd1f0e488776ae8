-- Document 02, Q-10, said directly: what a run without extended data asks for and plans, and that the header which comes with its blocks is not judged.
-- Assumes nothing.
use Rattle.std.specs.Prelude.{ℕ, ◌+◌, ◌-◌, ◌*◌, ◌≤◌, ◌≡◌, refl, List, ◌++◌, Bool, ◌&&◌, ◌||◌, length}
use Rattle.std.proofs.Math.Path.{sym, ap}
use Rattle.std.proofs.Common.{◌∙◌, arith, length-append, drop_at, eqb-true, ne_eqb}
use Rattle.std.proofs.Math.Bool.{true, false}
use Rattle.std.proofs.Math.Dec.{leb, eqb}
use Rattle.choices.specs.Choice.{pick}
use Rattle.choices.specs.Tests.{holds, each, by_test, and_left, and_right, clash, same_or_not}
use Rattle.copies.specs.Parts.{put}
use Rattle.answers.specs.Answers.{success, bad_setup}
use Rattle.pages.specs.Pages.{block}
use Rattle.words.specs.declared.Command.{Command}
use Rattle.words.specs.Words.{long_bytes, offset_of, read_of}
use Rattle.words.specs.Back.{meant}
use Rattle.plans.specs.declared.Plan.{Plan}
use Rattle.phases.specs.declared.Phase.{Phase}
use Rattle.phases.specs.declared.Phase.TheVariants.{Chunk, Close}
use Rattle.phases.specs.Phases.{ended_by}
use Rattle.plans.specs.Plans.{chunk_taken, plan_tests, setup_answer, area_last, reach, fits, chunk_of, chunks_from}
use Rattle.phases.specs.Asked.{chunk_in, chunk_blocks, inside_by, within_by, words_by}
use Rattle.plans.specs.Limits.{fits_reach}
use Rattle.phases.specs.Chunks.{chunk_inside, chunk_short, phase_close}
use Rattle.phases.specs.Awaited.{command_by, asks_offset, ask_few, awaited_built}
use Rattle.completions.specs.Plan.{Planned, plan_by}
use Rattle.completions.specs.Planned.{planned_good}
use Rattle.completions.specs.Completions.{seen_of, look_by}
use Rattle.completions.specs.Looked.{success_opens, opens_chunks}
use Rattle.turns.specs.Turns.{following_of}
use Rattle.collection.specs.declared.Collection.{Collection}
use Rattle.collection.specs.Told.{Decided}
use Rattle.collection.specs.Collection.{awaited_of, look_of, valid_state, refusal_of, decide_of, step_of, copy_after}
use Rattle.collection.specs.Laws.{state_valid, not_refused}
use Rattle.collection.specs.Steps.{awaited_taken, refused_copy, chunk_good}
use Rattle.collection.specs.Copied.{chunk_copy}

-- ---- setup

refuses : (p : Plan) → chunk_taken p.caps.extended p.chunk ≡ false → setup_answer p ≡ bad_setup
unfolding setup_answer
refuses p e = by_test (holds (plan_tests p)) (λ t. clash (each (plan_tests p) t 2) e) (λ f. rw f)

-- 13 with extended data and no blocks a command, and without it and with any
pub blocks_against : (p : Plan)
    → (p.caps.extended ≡ true → p.chunk ≡ 0 → setup_answer p ≡ bad_setup)
    × (p.caps.extended ≡ false → (p.chunk ≡ 0 → ⊥) → setup_answer p ≡ bad_setup)
blocks_against p = (λ e n. refuses p (rw (e, n)), λ e n. refuses p (rw e (ne_eqb p.chunk 0 n)))

-- ---- the commands

-- no awaited command has an offset, or more than 32 blocks, whichever bits of the length count
pub old_plain : (s : Collection) → valid_state s ≡ true → ended_by s.phase ≡ false → s.plan.caps.extended ≡ false
    → (offset_of (awaited_of s) ≡ 0) × (long_bytes (awaited_of s) ≤ 16384)
unfolding awaited_of
old_plain s e g o =
    let a = (awaited_taken s e g).long in
    let n = asks_offset s.phase s.plan s.attempt.last o in
    let k = ask_few s.phase s.plan s.attempt.last (state_valid s e).plan o in
    (ap (λ (c : Command). c.offset) a ∙ omega (arith, n), omega (arith, ap (λ (c : Command). c.bytes) a, k))

module _ (p : Plan) (last : List ℕ) (at : ℕ) (e : setup_answer p ≡ success) (o : p.caps.extended ≡ false) (w : within_by (Chunk at) p last ≡ true) where
  near : area_last p last ≤ reach
  unfolding within_by
  near = fits_reach p last (and_left (fits p last) (inside_by (Chunk at) p last) w) o

  starts : (at ≡ 1) × (1 ≤ area_last p last)
  unfolding within_by
  starts =
      let i = and_right (fits p last) (inside_by (Chunk at) p last) w in
      let one : p.caps.extended || eqb at 1 ≡ true = and_right (leb 1 at && leb at (area_last p last)) (p.caps.extended || eqb at 1) i in
      let k = chunk_inside p last at i in
      (eqb-true at 1 (rw o at one), omega (arith, k.low, k.high))

  -- the only chunk is asked for as the header and all blocks of the area, from offset 0 and with RAE 1, whichever bits of the length count
  asked : Bool → Type 0
  asked t = read_of t (words_by (Chunk at) p last) ≡ command_by (Chunk at) p last

  reads : (t : Bool) → asked t
  unfolding asked
  reads true = (awaited_built (Chunk at) p last e w refl).long
  reads false = ap (λ (t : Bool). read_of t (words_by (Chunk at) p last)) (sym o) ∙ (awaited_built (Chunk at) p last e w refl).reads

  pub old_middle : (t : Bool) → read_of t (words_by (Chunk at) p last) ≡ meant p.page false 0 true 0 (area_last p last + 1)
  unfolding asked
  old_middle t =
      let n : chunk_blocks reach 1 (area_last p last) ≡ area_last p last =
      sym (chunk_short reach 1 (area_last p last) starts.1 (omega (arith, near))) ∙ omega (arith, starts.1) in
      reads t ∙ rw (starts.0, o) (ap (meant p.page false 0 true 0) (omega (arith, n)))

  closes : following_of p last at ≡ Close false
  closes = rw o (sym (phase_close (at + reach) (area_last p last) (omega (arith, near, starts.0))))

-- and the closing header follows it
pub old_follows : (s : Collection) (at : ℕ) (d : List ℕ) (n : ℕ) → s.phase ≡ Chunk at → s.plan.caps.extended ≡ false → refusal_of s true (length d) n ≡ success
    → (step_of s true d n).state.phase ≡ Close false
unfolding valid_state
old_follows s at d n f o r =
    let t = (not_refused s true (length d) n r).state in
    let w : within_by (Chunk at) s.plan s.attempt.last ≡ true = ap (λ (g : Phase). within_by g s.plan s.attempt.last) (sym f) ∙ each _ t 3 in
    rw (chunk_good s at d n f r) (closes s.plan s.attempt.last at (state_valid s t).plan o w)

-- ---- the plan

-- no chunk of an area without blocks, and else one
one_chunk : (b : ℕ) → b ≤ reach → chunks_from reach 1 b ≡ pick (eqb b 0) 0 1
one_chunk b l = same_or_not b 0 (λ e. rw e) (λ n. rw (ne_eqb b 0 n) (omega (arith, n)))

pub old_planned : (p : Plan) (d : List ℕ) → setup_answer p ≡ success → p.caps.extended ≡ false → (plan_by p d).answer ≡ success
    → (plan_by p d).chunks ≡ pick (eqb (area_last p (plan_by p d).fields.last) 0) 0 1
unfolding seen_of
old_planned p d e o a =
    let w = success_opens p d e a in
    let l = ap (λ (x : Planned). x.fields.last) (planned_good p.page p.area p.caps p.chunk p.room d a) in
    opens_chunks p d e w
    ∙ ap (λ (c : ℕ). chunks_from c 1 (area_last p (seen_of p d).last)) (let c : chunk_of p ≡ reach = rw o in c)
    ∙ one_chunk (area_last p (seen_of p d).last) (fits_reach p (seen_of p d).last w.fits o)
    ∙ ap (λ (b : List ℕ). pick (eqb (area_last p b) 0) 0 1) (sym l)

-- ---- the header in front of the blocks

-- whatever its bytes are, the step is the same, and so is the copy: the closing header decides
module _ (s : Collection) (at : ℕ) (f : s.phase ≡ Chunk at) (o : s.plan.caps.extended ≡ false) (x y d copy : List ℕ) (l : length x ≡ block) (m : length y ≡ block) where
  as_long : length (x ++ d) ≡ length (y ++ d)
  as_long = length-append x d ∙ omega (arith, l, m) ∙ sym (length-append y d)

  unseen : look_of s (x ++ d) ≡ look_of s (y ++ d)
  unfolding look_of look_by
  unseen = rw f

  decided : decide_of s true (length (x ++ d)) (length copy) (look_of s (x ++ d)) ≡ decide_of s true (length (y ++ d)) (length copy) (look_of s (y ++ d))
  decided = ap (λ (n : ℕ). decide_of s true n (length copy) (look_of s (x ++ d))) as_long ∙ ap (decide_of s true (length (y ++ d)) (length copy)) unseen

  blocks_of_lem : (z : List ℕ) → length z ≡ block → chunk_in s.plan (z ++ d) ≡ d
  blocks_of_lem z e = rw o (drop_at z d block e)

  pub old_unjudged : (step_of s true (x ++ d) (length copy) ≡ step_of s true (y ++ d) (length copy)) × (copy_after s true (x ++ d) copy ≡ copy_after s true (y ++ d) copy)
  unfolding step_of
  old_unjudged = (
    ap (λ (z : Decided). z.stepped) decided,
    same_or_not (refusal_of s true (length (x ++ d)) (length copy)) success
        (λ r.
        (chunk_copy s at (x ++ d) copy f r).1
        ∙ ap (put copy (block * (at - 1))) (blocks_of_lem x l ∙ sym (blocks_of_lem y m))
        ∙ sym (chunk_copy s at (y ++ d) copy f (ap (λ (n : ℕ). refusal_of s true n (length copy)) (sym as_long) ∙ r)).1)
        (λ r.
        refused_copy s true (x ++ d) copy r
        ∙ sym (refused_copy s true (y ++ d) copy (λ q. r (ap (λ (n : ℕ). refusal_of s true n (length copy)) as_long ∙ q)))),
  )
