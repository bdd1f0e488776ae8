-- No controller can keep a collection from ending, and none can bring it into a state that gets 13: for any completions at all, each state
-- of a run keeps `Reached`. An attempt sends its chunks and a closing header, which is the next attempt's header; the first header is one
-- more, and so is the acknowledgement.
-- Assumes nothing.
use Rattle.std.specs.Prelude.{ℕ, ◌+◌, ◌-◌, ◌*◌, ◌≤◌, ◌<◌, ◌≡◌, refl, List, [], ◌∷◌, ◌++◌, Bool, true, false, not, ◌&&◌, ◌||◌, length, leb, eqb}
use Rattle.std.proofs.Common.{sym, ap, subst, ◌∙◌, mul-add, mul-le-mul_left, mul-le-mul_right, div-lt_iff_lt-mul, leb-true, le-leb, eq-eqb}
use Rattle.std.proofs.Math.Bool.{or-true}
use native.Mathlib.Omega.{arith}
use Rattle.std.proofs.Math.Nat.{add-mul}
use Rattle.choices.specs.Choice.{pick, pick_cases, larger_left, larger_right, first_that}
use Rattle.choices.specs.Tests.{holds, each, by_test, and_right, clash, same_or_not}
use Rattle.answers.specs.Answers.{success, bad_setup, already_ended, does_not_fit}
use Rattle.copies.specs.Parts.{zeros}
use Rattle.pages.specs.Pages.{controller_page, block, most4, last_of}
use Rattle.lastblocks.specs.Rule.{LastRule, last_rule}
use Rattle.header.specs.Header.{last_at, fields_of, fields_ok, faultless, no_fields, check_of}
use Rattle.header.specs.Faults.{faultless_header}
use Rattle.plans.specs.declared.Plan.{Plan}
use Rattle.phases.specs.declared.Phase.{Phase}
use Rattle.phases.specs.declared.Phase.TheVariants.{First, Chunk, Close, Ack, Ended}
use Rattle.completions.specs.declared.Seen.{Seen}
use Rattle.endings.specs.declared.Ending.{Ending}
use Rattle.endings.specs.declared.Ending.TheVariants.{Success}
use Rattle.judgement.specs.declared.Move.{Move}
use Rattle.judgement.specs.declared.Move.TheVariants.{End, Open, More, Skip, Acknowledge}
use Rattle.plans.specs.Limits.{plan_limits, both_fit, fits_reach}
use Rattle.phases.specs.Chunks.{chunk_inside}
use Rattle.phases.specs.Phases.{judged_by, ended_by, closing_by, silent_by, closing_is}
use Rattle.plans.specs.Plans.{setup_answer, area_last, fits_room, reach, in_reach, fits, chunk_of, chunks_from, chunks_of}
use Rattle.phases.specs.Asked.{inside_by, within_by, phase_at}
use Rattle.completions.specs.Completions.{seen_of}
use Rattle.completions.specs.Looked.{TakenByPlan, Opens, look_closing, taken_as_checked, success_opens, opens_chunks, chunks_at_most}
use Rattle.completions.specs.Plan.{Planned, plan_by}
use Rattle.completions.specs.Planned.{planned_refused}
use Rattle.refusals.specs.Refusals.{most_count}
use Rattle.collection.specs.Collection.{valid_state, completion_fits, look_of, refusal_of, move_of, setup_of, answer_of}
use Rattle.collection.specs.Laws.{move_cases}
use Rattle.collection.specs.Steps.{makes, setup_taken, refused_step, taken_step, looks_planned}
use Rattle.collection.specs.declared.Collection.{Collection}
use Rattle.runs.specs.Run.{Completion, step_by, after, state_of, called_for, most_chunks, headers_of, acknowledging, fitting}
use Rattle.runs.specs.Counted.{step_counts, plan_stays}
use Rattle.runs.specs.Bound.{chunks_less, due_by, extra_by, Reached, chunks_in}

-- ---- chunks

-- no more chunks than blocks
chunks_few : (c b : ℕ) → 1 ≤ c → chunks_from c 1 b ≤ b
chunks_few c b l =
    let m = mul-le-mul_left b l in
    let a = add-mul b 1 c in
    let h = (div-lt_iff_lt-mul {k = c} {x = b + c - 1} {y = b + 1} l).1 (omega arith) in
    omega arith

-- ---- what holds of each state of a run whose headers call for at most most chunks

few_closing : (f : Phase) (most n t : ℕ) (p : Plan) (last : List ℕ) → closing_by f ≡ true → n + due_by f most p last ≤ extra_by f p + t → n ≤ 1 + t
few_closing f most n t p last c h =
    let g : n + 0 ≤ 1 + t = rw (closing_is f c).is at h in
    omega arith

few_ended : (f : Phase) (most n t : ℕ) (p : Plan) (last : List ℕ) → n + due_by f most p last ≤ extra_by f p + t → n + 0 ≤ 1 + acknowledging p + t
few_ended f most n t p last h =
    let l : pick (silent_by f) (acknowledging p) 0 ≤ acknowledging p =
    pick_cases (λ (x : ℕ). x ≤ acknowledging p) (silent_by f) (λ e. omega arith) (λ e. omega arith) in
    omega arith

few_more : (f : Phase) (most more n t : ℕ) (p : Plan) (last : List ℕ) → most ≤ more → 1 ≤ t → n + due_by f most p last ≤ extra_by f p + t * (most + 1)
    → n + due_by f more p last ≤ extra_by f p + t * (more + 1)
few_more First most more n t p last l o h =
    let m = mul-le-mul_right (more - most) o in
    let a = mul-add t most 1 in
    let b = mul-add t more 1 in
    let c = mul-add t most (more - most) in
    let d : most + (more - most) ≡ more = omega arith in
    let g : t * more ≡ t * most + t * (more - most) = rw d at c in
    omega arith
few_more (Chunk at) most more n t p last l o h = let m = mul-le-mul_left {m = most + 1} {n = more + 1} t (omega arith) in omega arith
few_more (Close after) most more n t p last l o h = let m = mul-le-mul_left {m = most + 1} {n = more + 1} t (omega arith) in omega arith
few_more Ack most more n t p last l o h = let m = mul-le-mul_left {m = most + 1} {n = more + 1} t (omega arith) in omega arith
few_more Ended most more n t p last l o h = let m = mul-le-mul_left {m = most + 1} {n = more + 1} t (omega arith) in omega arith

-- the phase at a block: the chunk there, which in an old run is the first one, or the closing header
alone : (extended : Bool) (at : ℕ) → (extended ≡ false → at ≡ 1) → extended || eqb at 1 ≡ true
alone true at h = refl
alone false at h = eq-eqb at 1 (h refl)

at_inside : (at : ℕ) (p : Plan) (last : List ℕ) → 1 ≤ at → (p.caps.extended ≡ false → at ≤ area_last p last → at ≡ 1)
    → inside_by (phase_at at (area_last p last)) p last ≡ true
unfolding phase_at
at_inside at p last h first =
    pick_cases (λ (f : Phase). inside_by f p last ≡ true) (leb at (area_last p last))
    (λ e. rw (le-leb 1 at h, e, alone p.caps.extended at (λ o. first o (leb-true at (area_last p last) e)))) (λ e. refl)

at_few : (at most n t : ℕ) (p : Plan) (last : List ℕ) → n + chunks_from (chunk_of p) at (area_last p last) ≤ 1 + t
    → n + due_by (phase_at at (area_last p last)) most p last ≤ extra_by (phase_at at (area_last p last)) p + t
unfolding phase_at
at_few at most n t p last h =
    pick_cases (λ (f : Phase). n + due_by f most p last ≤ extra_by f p + t) (leb at (area_last p last)) (λ e. h) (λ e. omega arith)

-- what a move leads to
abbrev Leads : ℕ → Collection → Seen → Move → Type 0
Leads most s h m = Reached most (makes s h m).state

-- the area of a header that opens an attempt can be collected, and calls for at most most chunks: a first one that its plan takes, and a later one
record Calls (most : ℕ) (s : Collection) (h : Seen) : Type 0 where
  first : s.phase ≡ First → TakenByPlan h → (fits s.plan h.last ≡ true) × (chunks_of s.plan h.last ≤ most)
  later : closing_by s.phase ≡ true → Opens s.plan h → chunks_of s.plan h.last ≤ most

module _ (most : ℕ) (s : Collection) (h : Seen) (r : Reached most s) (c : Calls most s h) where
  over : (e : Ending) → Leads most s h (End e false)
  unfolding makes
  over e = record {
    plan = r.plan;
    low = r.low;
    high = r.high;
    area = r.area;
    inside = refl;
    few = few_ended s.phase most s.count (s.attempt.number * (most + 1)) s.plan s.attempt.last r.few;
  }

  short : (e : Ending) → closing_by s.phase ≡ true → s.attempt.number < s.plan.attempts → Leads most s h (End e true)
  unfolding makes
  short e f l =
      let n = few_closing s.phase most s.count (s.attempt.number * (most + 1)) s.plan s.attempt.last f r.few in
      let a = add-mul s.attempt.number 1 (most + 1) in
      record { plan = r.plan; low = omega arith; high = omega arith; area = r.area; inside = refl; few = omega arith }

  first : s.phase ≡ First → TakenByPlan h → Leads most s h (Open false)
  unfolding makes
  first f o =
      let n : s.count + (most + 1) ≤ 1 + s.attempt.number * (most + 1) = rw f at r.few in
      let k = c.first f o in
      record {
        plan = r.plan;
        low = r.low;
        high = r.high;
        area = k.0;
        inside = at_inside 1 s.plan h.last (omega arith) (λ o g. refl);
        few = at_few 1 most (s.count + 1) (s.attempt.number * (most + 1)) s.plan h.last (omega arith);
      }

  again : closing_by s.phase ≡ true → s.attempt.number < s.plan.attempts → Opens s.plan h → Leads most s h (Open true)
  unfolding makes
  again f l w =
      let n = few_closing s.phase most s.count (s.attempt.number * (most + 1)) s.plan s.attempt.last f r.few in
      let a = add-mul s.attempt.number 1 (most + 1) in
      let k = c.later f w in
      record {
        plan = r.plan;
        low = omega arith;
        high = omega arith;
        area = w.fits;
        inside = at_inside 1 s.plan h.last (omega arith) (λ o g. refl);
        few = at_few 1 most (s.count + 1) ((s.attempt.number + 1) * (most + 1)) s.plan h.last (omega arith);
      }

  more : (at : ℕ) → s.phase ≡ Chunk at → Leads most s h (More at)
  unfolding makes
  more at f =
      let n : s.count + chunks_from (chunk_of s.plan) at (area_last s.plan s.attempt.last) ≤ 1 + s.attempt.number * (most + 1) = rw f at r.few in
      let l = plan_limits s.plan r.plan in
      let i = chunk_inside s.plan s.attempt.last at (rw f at r.inside) in
      let k = chunks_less (chunk_of s.plan) at (area_last s.plan s.attempt.last) l.chunk_low i.high in
      record {
        plan = r.plan;
        low = r.low;
        high = r.high;
        area = r.area;
        inside = at_inside (at + chunk_of s.plan) s.plan s.attempt.last (omega (arith, i.low))
            (λ o g. let c : chunk_of s.plan ≡ reach = rw o in absurd (omega (arith, i.low, fits_reach s.plan s.attempt.last r.area o)));
        few = at_few (at + chunk_of s.plan) most (s.count + 1) (s.attempt.number * (most + 1)) s.plan s.attempt.last (omega arith);
      }

  skip : (at : ℕ) → s.phase ≡ Chunk at → Leads most s h Skip
  unfolding makes
  skip at f =
      let n : s.count + chunks_from (chunk_of s.plan) at (area_last s.plan s.attempt.last) ≤ 1 + s.attempt.number * (most + 1) = rw f at r.few in
      let l = plan_limits s.plan r.plan in
      let i = chunk_inside s.plan s.attempt.last at (rw f at r.inside) in
      let k = chunks_less (chunk_of s.plan) at (area_last s.plan s.attempt.last) l.chunk_low i.high in
      record { plan = r.plan; low = r.low; high = r.high; area = r.area; inside = refl; few = omega arith }

  acknowledge : s.phase ≡ Close false → s.plan.page ≡ controller_page → Leads most s h Acknowledge
  unfolding makes
  acknowledge f e =
      let a : acknowledging s.plan ≡ 1 = rw e in
      let n : s.count + 0 ≤ 1 + s.attempt.number * (most + 1) = rw f at r.few in
      record { plan = r.plan; low = r.low; high = r.high; area = r.area; inside = refl; few = omega arith }

  leads : (ok : Bool) → Leads most s h (move_of s ok h)
  leads ok = move_cases (Leads most s h) s ok h (record {
    fail = λ e l t. over e;
    short = λ e g t f l. short e f l;
    first = λ f o. first f o;
    again = λ f l w. again f l w;
    more = λ at f y. more at f;
    skip = λ at f n. skip at f;
    acknowledge = λ f m p. acknowledge f p;
    stand = λ f m n. over (Success false);
    done = λ f y. over _;
  })

-- a larger bound holds too
pub reached_more : (most more : ℕ) (s : Collection) → most ≤ more → Reached most s → Reached more s
reached_more most more s l r = record {
  plan = r.plan;
  low = r.low;
  high = r.high;
  area = r.area;
  inside = r.inside;
  few = few_more s.phase most more s.count s.attempt.number s.plan s.attempt.last l r.low r.few;
}

-- a step keeps it, where a header that it judges calls for at most most chunks
module _ (most : ℕ) (s : Collection) (k : Completion) (r : Reached most s)
    (c : refusal_of s k.ok (length k.bytes) k.copy ≡ success → judged_by s.phase ≡ true → called_for s.plan k.bytes ≤ most) where
  called : refusal_of s k.ok (length k.bytes) k.copy ≡ success → judged_by s.phase ≡ true → Opens s.plan (seen_of s.plan k.bytes)
      → chunks_of s.plan (seen_of s.plan k.bytes).last ≤ most
  called e j o = omega (arith, opens_chunks s.plan k.bytes r.plan o, c e j)

  calls : refusal_of s k.ok (length k.bytes) k.copy ≡ success → Calls most s (look_of s k.bytes)
  unfolding look_of
  calls e = record {
    first = λ f o.
        let q = looks_planned s k.ok k.bytes k.copy e f in
        let x = taken_as_checked s.plan k.bytes r.plan (subst TakenByPlan q o) in
        rw (q, x.seen) (x.opens.fits, called e (rw f) x.opens);
    later = λ f w.
        let q = look_closing s.phase s.plan k.bytes f in
        rw q (called e (closing_is s.phase f).judged (subst (Opens s.plan) q w));
  }

  pub step_reached : Reached most (step_by s k).state
  step_reached =
      same_or_not (refusal_of s k.ok (length k.bytes) k.copy) success
      (λ e. rw (taken_step s k.ok k.bytes k.copy e) (leads most s (look_of s k.bytes) r (calls e) k.ok))
      (λ e. rw (refused_step s k.ok k.bytes k.copy e) r)

-- ---- runs

-- before any header B is 0
no_area : (area : ℕ) → last_of area (zeros 4) ≡ 0
no_area area =
    pick_cases (λ (x : ℕ). x ≡ 0) (eqb area 1) (λ e. refl)
    (λ e. pick_cases (λ (x : ℕ). x ≡ 0) (eqb area 2) (λ f. refl) (λ f. pick_cases (λ (x : ℕ). x ≡ 0) (eqb area 3) (λ g. refl) (λ g. refl)))

pub begins : (most : ℕ) (p : Plan) → setup_answer p ≡ success → Reached most (setup_of p).state
unfolding in_reach fits_room
begins most p e =
    let l = plan_limits p e in
    let z = no_area p.area in
    rw (setup_taken p e) (record { plan = e; low = omega arith; high = l.attempts_low; area = both_fit p (zeros 4) (rw z (or-true p.caps.extended)) (rw z (le-leb 0 p.room (omega arith))); inside = refl; few = omega arith })

pub run_reached : (most : ℕ) (s : Collection) (ks : List Completion) → Reached most s → most_chunks s.plan (headers_of s ks) ≤ most → Reached most (after s ks)
unfolding after headers_of most_chunks
run_reached most s [] r c = r
run_reached most s (k ∷ ks) r c =
    let p = (step_counts s k.ok k.bytes k.copy).plan in
    run_reached most (step_by s k).state ks
    (step_reached most s k r (λ e j.
    let a : most_chunks s.plan (k.bytes ∷ headers_of (step_by s k).state ks) ≤ most = rw (j, eq-eqb _ success e) at c in
    let l = larger_left (called_for s.plan k.bytes) (most_chunks s.plan (headers_of (step_by s k).state ks)) in
    omega arith))
    (rw p (later (judged_by s.phase && eqb (refusal_of s k.ok (length k.bytes) k.copy) success) c))
  where
    later : (t : Bool) → most_chunks s.plan (pick t (k.bytes ∷ []) [] ++ headers_of (step_by s k).state ks) ≤ most
        → most_chunks s.plan (headers_of (step_by s k).state ks) ≤ most
    later true l = let r = larger_right (called_for s.plan k.bytes) (most_chunks s.plan (headers_of (step_by s k).state ks)) in omega arith
    later false l = l

-- a header that is not bad keeps the rule of last blocks, and a bad one shows none
last_limit : (da4s : Bool) (area : ℕ) (a : List ℕ) → LastRule da4s a → last_of area a ≤ most4
last_limit da4s area a r =
    pick_cases (λ (x : ℕ). x ≤ most4) (eqb area 1) (λ e. omega (arith, r.one_two, r.two_three, r.three_most))
    (λ e. pick_cases (λ (x : ℕ). x ≤ most4) (eqb area 2) (λ f. omega (arith, r.two_three, r.three_most))
    (λ f. pick_cases (λ (x : ℕ). x ≤ most4) (eqb area 3) (λ g. omega (arith, r.three_most)) (λ g. r.four_most)))

header_limit : (p : Plan) (d : List ℕ) → area_last p (seen_of p d).last ≤ most4
unfolding seen_of check_of no_fields fields_ok
header_limit p d =
    let good = faultless_header p.page p.caps.da4s d in
    by_test (faultless (check_of p.page p.caps.da4s d).fault)
    (λ t.
    let ok : fields_ok p.page p.caps.da4s (fields_of p.page d) ≡ true = and_right (eqb (length d) block) _ (sym good ∙ t) in
    rw t (last_limit p.caps.da4s p.area (last_at d) (last_rule p.caps.da4s (last_at d) (each _ ok 1))))
    (λ t. let z = no_area p.area in rw t (omega arith))

-- so no header calls for more chunks than the house limit has blocks
called_limit : (p : Plan) (d : List ℕ) → setup_answer p ≡ success → called_for p d ≤ most4
called_limit p d e =
    let f = chunks_few (chunk_of p) (area_last p (seen_of p d).last) (plan_limits p e).chunk_low in
    let l = header_limit p d in
    let m = chunks_at_most p d in
    omega arith

-- and in an old run for one at most
one_chunk : (c b : ℕ) → c ≡ reach → b ≤ reach → chunks_from c 1 b ≤ 1
one_chunk c b e l = rw e (omega arith)

called_once : (p : Plan) (d : List ℕ) → setup_answer p ≡ success → p.caps.extended ≡ false → called_for p d ≤ 1
called_once p d e o =
    same_or_not (plan_by p d).answer success
    (λ a.
    let w = success_opens p d e a in
    omega (arith, opens_chunks p d e w, one_chunk (chunk_of p) (area_last p (seen_of p d).last) (rw o) (fits_reach p (seen_of p d).last w.fits o)))
    (λ n. omega (arith, ap (λ (x : Planned). x.chunks) (planned_refused p.page p.area p.caps p.chunk p.room d (plan_by p d).answer refl n)))

pub old_chunks : (p : Plan) (ds : List (List ℕ)) → setup_answer p ≡ success → p.caps.extended ≡ false → most_chunks p ds ≤ 1
unfolding most_chunks
old_chunks p [] e o = omega arith
old_chunks p (d ∷ ds) e o =
    pick_cases (λ (x : ℕ). x ≤ 1) (leb (called_for p d) (most_chunks p ds)) (λ t. old_chunks p ds e o) (λ t. called_once p d e o)

pub step_house : (s : Collection) (k : Completion) → Reached most4 s → Reached most4 (step_by s k).state
step_house s k r = step_reached most4 s k r (λ e j. called_limit s.plan k.bytes r.plan)

pub run_house : (s : Collection) (ks : List Completion) → Reached most4 s → Reached most4 (after s ks)
unfolding after
run_house s [] r = r
run_house s (k ∷ ks) r = run_house (step_by s k).state ks (step_house s k r)

-- the commands sent by an attempt
pub reached_count : (most : ℕ) (s : Collection) → Reached most s → s.count ≤ 1 + s.attempt.number * (most + 1) + acknowledging s.plan
reached_count most s r =
    let n = few_ended s.phase most s.count (s.attempt.number * (most + 1)) s.plan s.attempt.last r.few in
    omega arith

reached_most : (most : ℕ) (s : Collection) → Reached most s → s.count ≤ 1 + s.plan.attempts * (most + 1) + acknowledging s.plan
reached_most most s r =
    let n = reached_count most s r in
    let m = mul-le-mul_right (most + 1) r.high in
    omega arith

one_more : (p : Plan) → acknowledging p ≤ 1
one_more p = pick_cases (λ (x : ℕ). x ≤ 1) (eqb p.page controller_page) (λ e. omega arith) (λ e. omega arith)

pub reached_ok : (s : Collection) → Reached most4 s → valid_state s ≡ true
unfolding valid_state holds within_by
reached_ok s r =
    let n = reached_most most4 s r in
    let o = one_more s.plan in
    rw (eq-eqb (setup_answer s.plan) success r.plan, le-leb 1 s.attempt.number r.low, le-leb s.attempt.number s.plan.attempts r.high, le-leb s.count (most_count s.plan.attempts) (omega arith), r.area, r.inside)

-- Every state that setup and steps give is valid: whatever completes the commands, none of them gets 13.
pub never_13 : (p : Plan) (ks : List Completion) → setup_answer p ≡ success → valid_state (state_of p ks) ≡ true
never_13 p ks e = reached_ok (state_of p ks) (run_house (setup_of p).state ks (begins most4 p e))

-- Whatever completes the commands, a run sends at most 1 + attempts·(C + 1) of them, one more on 08h, C being the most chunks that any of its
-- headers calls for.
pub few_commands : (p : Plan) (ks : List Completion) → setup_answer p ≡ success
    → (state_of p ks).count ≤ 1 + p.attempts * (chunks_in p ks + 1) + acknowledging p
few_commands p ks e =
    let most = chunks_in p ks in
    let b : (setup_of p).state.plan ≡ p = rw (setup_taken p e) in
    let n = reached_most most (state_of p ks) (run_reached most (setup_of p).state ks (begins most p e) (rw b (omega arith))) in
    let q : (state_of p ks).plan ≡ p = plan_stays (setup_of p).state ks ∙ b in
    rw q at n

-- Without extended data at most 1 + 2·attempts, one more on 08h.
pub few_old_commands : (p : Plan) (ks : List Completion) → setup_answer p ≡ success → p.caps.extended ≡ false → (state_of p ks).count ≤ 1 + p.attempts * 2 + acknowledging p
few_old_commands p ks e o =
    let m = mul-le-mul_left {m = chunks_in p ks + 1} {n = 2} p.attempts (omega (arith, old_chunks p (headers_of (setup_of p).state ks) e o)) in
    omega (arith, few_commands p ks e, m)

-- ---- every completion that fits brings a run nearer to its end

-- an ended state refuses every completion, and a valid one that has not ended refuses one only with 15
three : (a b c : Bool) → a ≡ false → b ≡ true → (first_that ((a, already_ended) ∷ (not b, bad_setup) ∷ (not c, does_not_fit) ∷ []) success ≡ success → ⊥)
    → first_that ((a, already_ended) ∷ (not b, bad_setup) ∷ (not c, does_not_fit) ∷ []) success ≡ does_not_fit
three true b c p q r = clash {t = true} refl p
three false false c p q r = clash {t = true} refl (sym q)
three false true true p q r = absurd (r refl)
three false true false p q r = refl

only_15 : (s : Collection) (ok : Bool) (bytes copy : ℕ) → ended_by s.phase ≡ false → valid_state s ≡ true → (refusal_of s ok bytes copy ≡ success → ⊥)
    → refusal_of s ok bytes copy ≡ does_not_fit
unfolding refusal_of
only_15 s ok bytes copy g w r = three (ended_by s.phase) (valid_state s) (completion_fits s ok bytes copy) g w r

ended_refused : (s : Collection) (ok : Bool) (bytes copy : ℕ) → ended_by s.phase ≡ true → refusal_of s ok bytes copy ≡ success → ⊥
unfolding refusal_of
ended_refused s ok bytes copy e r = let z : ◌≡◌ {A = ℕ} 14 0 = rw e at r in omega arith

-- a state that has ended stays
stays_ended : (s : Collection) (ks : List Completion) → ended_by s.phase ≡ true → ended_by (after s ks).phase ≡ true
unfolding after
stays_ended s [] e = e
stays_ended s (k ∷ ks) e = stays_ended (step_by s k).state ks (rw (refused_step s k.ok k.bytes k.copy (ended_refused s k.ok (length k.bytes) k.copy e)) e)

not_yet : (s : Collection) (ks : List Completion) → ended_by (after s ks).phase ≡ false → ended_by s.phase ≡ false
not_yet s ks g = by (ended_by s.phase) refl
  where
    by : (t : Bool) → ended_by s.phase ≡ t → t ≡ false
    by true e = clash (stays_ended s ks e) g
    by false e = refl

-- while it has not, a completion that fits is followed by a command
act_going : (s : Collection) (h : Seen) (m : Move) → ended_by (makes s h m).state.phase ≡ false
    → (makes s h m).state.count ≡ s.count + pick (eqb (answer_of (makes s h m).next) does_not_fit) 0 1
unfolding makes
act_going s h (End x next) e = clash {t = true} refl e
act_going s h (Open next) e = refl
act_going s h (More at) e = refl
act_going s h Skip e = refl
act_going s h Acknowledge e = refl

step_going : (s : Collection) (k : Completion) → valid_state s ≡ true → ended_by (step_by s k).state.phase ≡ false
    → (step_by s k).state.count ≡ s.count + pick (eqb (answer_of (step_by s k).next) does_not_fit) 0 1
step_going s k w g =
    same_or_not (refusal_of s k.ok (length k.bytes) k.copy) success
    (λ e.
    let q = taken_step s k.ok k.bytes k.copy e in
    rw q (act_going s (look_of s k.bytes) (move_of s k.ok (look_of s k.bytes)) (rw q at g)))
    (λ e.
    let q = refused_step s k.ok k.bytes k.copy e in
    let f = only_15 s k.ok (length k.bytes) k.copy (rw q at g) w e in
    rw (q, f) (omega arith))

fitting_counts : (s : Collection) (ks : List Completion) → Reached most4 s → ended_by (after s ks).phase ≡ false
    → (after s ks).count ≡ s.count + fitting s ks
unfolding after fitting
fitting_counts s [] r g = omega arith
fitting_counts s (k ∷ ks) r g =
    let i = fitting_counts (step_by s k).state ks (step_house s k r) g in
    let c = step_going s k (reached_ok s r) (not_yet (step_by s k).state ks g) in
    omega arith

-- No controller can keep a collection from ending: 1 + attempts·(C + 1) completions that fit the awaited command, one more on 08h, end it,
-- whatever they are.
pub ends : (p : Plan) (ks : List Completion) → setup_answer p ≡ success
    → 1 + p.attempts * (chunks_in p ks + 1) + acknowledging p ≤ fitting (setup_of p).state ks
    → ended_by (state_of p ks).phase ≡ true
ends p ks e l = by (ended_by (state_of p ks).phase) refl
  where
    by : (t : Bool) → ended_by (state_of p ks).phase ≡ t → t ≡ true
    by true g = refl
    by false g =
        let n = few_commands p ks e in
        let c = fitting_counts (setup_of p).state ks (begins most4 p e) g in
        let o : (setup_of p).state.count ≡ 1 = rw (setup_taken p e) in
        absurd (omega arith)

-- and of an old run
pub ends_old : (p : Plan) (ks : List Completion) → setup_answer p ≡ success → p.caps.extended ≡ false
    → 1 + p.attempts * 2 + acknowledging p ≤ fitting (setup_of p).state ks → ended_by (state_of p ks).phase ≡ true
ends_old p ks e o l =
    let m = mul-le-mul_left {m = chunks_in p ks + 1} {n = 2} p.attempts (omega (arith, old_chunks p (headers_of (setup_of p).state ks) e o)) in
    ends p ks e (omega (arith, l, m))

house_chunks : (p : Plan) (ds : List (List ℕ)) → setup_answer p ≡ success → most_chunks p ds ≤ most4
unfolding most_chunks
house_chunks p [] e = omega arith
house_chunks p (d ∷ ds) e =
    let a = called_limit p d e in
    let b = house_chunks p ds e in
    pick_cases (λ (x : ℕ). x ≤ most4) (leb (called_for p d) (most_chunks p ds)) (λ t. b) (λ t. a)

-- And C is 1,048,576 at most.
pub chunks_limited : (p : Plan) (ks : List Completion) → setup_answer p ≡ success → chunks_in p ks ≤ most4
chunks_limited p ks e = house_chunks p (headers_of (setup_of p).state ks) e

-- So there is a number of completions that ends any run with these attempts, from any controller.
pub ends_in_any_case : (p : Plan) (ks : List Completion) → setup_answer p ≡ success → most_count p.attempts ≤ fitting (setup_of p).state ks
    → ended_by (state_of p ks).phase ≡ true
ends_in_any_case p ks e l =
    let c = chunks_limited p ks e in
    let m = mul-le-mul_left {m = chunks_in p ks + 1} {n = most4 + 1} p.attempts (omega arith) in
    let o = one_more p in
    ends p ks e (omega arith)
