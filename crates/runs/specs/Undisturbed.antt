-- An undisturbed run: after a header that its plan takes, while every completion is a success, the collection sends just as many chunks as the plan says, and then the closing
-- header; and if that shows what the first one showed, it ends well, or on 08h acknowledges.
-- Assumes nothing.
use Rattle.std.specs.Prelude.{ℕ, suc, ◌+◌, ◌-◌, ◌≤◌, ◌<◌, ◌≡◌, refl, List, [], ◌∷◌, Bool, true, false, length, leb, eqb}
use Rattle.std.proofs.Common.{sym, ap, subst, ◌∙◌, arith, zero-add, add-zero, suc-add, leb-true, leb-false, eq-eqb}
use Rattle.std.proofs.Math.Nat.{div-eq_of_lt}
use Rattle.choices.specs.Tests.{by_test}
use Rattle.answers.specs.Answers.{success}
use Rattle.pages.specs.Pages.{controller_page}
use Rattle.lastblocks.specs.Laws.{same_itself}
use Rattle.header.specs.Header.{faultless}
use Rattle.plans.specs.declared.Plan.{Plan}
use Rattle.phases.specs.declared.Phase.TheVariants.{First, Chunk, Close, Ack}
use Rattle.phases.specs.Phases.{closing_by, refused_by}
use Rattle.plans.specs.Plans.{setup_answer, area_last, chunks_from, chunk_of}
use Rattle.phases.specs.Asked.{phase_at}
use Rattle.plans.specs.Limits.{plan_limits}
use Rattle.phases.specs.Chunks.{phase_chunk, phase_close}
use Rattle.completions.specs.declared.Seen.{Seen}
use Rattle.completions.specs.Plan.{plan_by}
use Rattle.completions.specs.Completions.{seen_of, shows_none}
use Rattle.completions.specs.Looked.{Opens, opens_chunks, success_opens}
use Rattle.endings.specs.declared.Ending.TheVariants.{Success}
use Rattle.judgement.specs.Judgement.{matches}
use Rattle.collection.specs.declared.Collection.{Collection}
use Rattle.collection.specs.declared.Next.TheVariants.{End as Ends}
use Rattle.collection.specs.Told.{Stepped}
use Rattle.collection.specs.Collection.{refusal_of, setup_of, step_of, beginning}
use Rattle.collection.specs.Steps.{in_phase, opened_by, setup_taken, first_opens, chunk_good, later_done, later_acknowledges}
use Rattle.runs.specs.Run.{Completion, step_by, after}
use Rattle.runs.specs.Bound.{chunks_less}

-- every completion is a success that the collection takes
pub data Succeed : Collection → List Completion → Type 0 where
  none : {s : Collection} → Succeed s []
  one : {s : Collection} {k : Completion} {ks : List Completion} → k.ok ≡ true → refusal_of s true (length k.bytes) k.copy ≡ success
      → Succeed (step_by s k).state ks → Succeed s (k ∷ ks)

-- past the area there is no chunk, and within it there is one at least
past : (c at b : ℕ) → 1 ≤ c → b < at → chunks_from c at b ≡ 0
past c at b l h = div-eq_of_lt {n = b + c - at} {m = c} (omega arith)

-- where a collection stands with chunks to come: they start at a block, and there are so many
pub record Left (s : Collection) (chunks : ℕ) : Type 0 where
  pub at : ℕ
  pub phase : s.phase ≡ phase_at at (area_last s.plan s.attempt.last)
  pub chunks_are : chunks_from (chunk_of s.plan) at (area_last s.plan s.attempt.last) ≡ chunks
  pub some : 1 ≤ chunk_of s.plan

-- with none to come the closing header is awaited, and else a chunk
pub none_left : (s : Collection) → Left s 0 → s.phase ≡ Close false
none_left s l =
    let b = area_last s.plan s.attempt.last in
    by_test (leb l.at b)
    (λ t. absurd (omega (arith, chunks_less (chunk_of s.plan) l.at b l.some (leb-true l.at b t), l.chunks_are)))
    (λ t. l.phase ∙ sym (phase_close l.at b (leb-false l.at b t)))

module _ (s : Collection) (n : ℕ) (l : Left s (suc n)) where
  abbrev b : ℕ
  b = area_last s.plan s.attempt.last

  within : l.at ≤ b
  within = by_test (leb l.at b) (λ t. leb-true l.at b t) (λ t. absurd (omega (arith, past (chunk_of s.plan) l.at b l.some (leb-false l.at b t), l.chunks_are)))

  pub some_left : s.phase ≡ Chunk l.at
  some_left = l.phase ∙ sym (phase_chunk l.at b within)

  -- a chunk that comes is one less to come
  chunk_taken_is : (k : Completion) → k.ok ≡ true → refusal_of s true (length k.bytes) k.copy ≡ success
      → (step_by s k).state ≡ in_phase s (phase_at (l.at + chunk_of s.plan) b)
  chunk_taken_is k e r = rw e (ap (λ (y : Stepped). y.state) (chunk_good s l.at k.bytes k.copy some_left r))

  next_left : (k : Completion) → k.ok ≡ true → refusal_of s true (length k.bytes) k.copy ≡ success → Left (step_by s k).state n
  next_left k e r =
      subst (λ (t : Collection). Left t n) (sym (chunk_taken_is k e r))
      (record {
        at = l.at + chunk_of s.plan;
        phase = refl;
        chunks_are = omega (arith, chunks_less (chunk_of s.plan) l.at b l.some within, l.chunks_are);
        some = l.some;
      })

-- after so many successes there are so many less to come
pub less_left : (s : Collection) (ks : List Completion) (n : ℕ) → Left s (length ks + n) → Succeed s ks → Left (after s ks) n
unfolding after
less_left s [] n l none = rw zero-add at l
less_left s (k ∷ ks) n l (one e r g) = less_left (step_by s k).state ks n (next_left s (length ks + n) (rw suc-add at l) k e r) g

-- and so many commands more were sent
pub succeed_counts : (s : Collection) (ks : List Completion) (n : ℕ) → Left s (length ks + n) → Succeed s ks
    → ((after s ks).count ≡ s.count + length ks) × ((after s ks).plan ≡ s.plan) × ((after s ks).attempt ≡ s.attempt)
unfolding after
succeed_counts s [] n l none = (omega arith, refl, refl)
succeed_counts s (k ∷ ks) n l (one e r g) =
    let m = rw suc-add at l in
    let x = chunk_taken_is s (length ks + n) m k e r in
    let c = succeed_counts (step_by s k).state ks n (next_left s (length ks + n) m k e r) g in
    (omega (arith, c.0, ap (λ (t : Collection). t.count) x), c.1 ∙ ap (λ (t : Collection). t.plan) x, c.2 ∙ ap (λ (t : Collection). t.attempt) x)

-- ---- an attempt

-- a header that opens an attempt, a first or a later one: as many chunks are to come as are planned from it
pub opened_left : (s : Collection) (next : Bool) (d : List ℕ) → setup_answer s.plan ≡ success → (plan_by s.plan d).answer ≡ success
    → Left (opened_by s next (seen_of s.plan d)) (plan_by s.plan d).chunks
opened_left s next d taken e = record {
  at = 1;
  phase = refl;
  chunks_are = sym (opens_chunks s.plan d taken (success_opens s.plan d taken e));
  some = (plan_limits s.plan taken).chunk_low;
}

-- ---- a run: a header that its plan takes, chunks that all come, and a closing header that shows what the first one showed

module _ (p : Plan) (d : List ℕ) (copy : ℕ) (ks : List Completion) (taken : setup_answer p ≡ success) (e : (plan_by p d).answer ≡ success)
    (r : refusal_of (setup_of p).state true (length d) copy ≡ success) where
  -- the header, as a completion
  abbrev pub headed : Completion
  headed = record { ok = true; bytes = d; copy = copy }

  -- the state after it
  abbrev pub opened : Collection
  opened = (step_by (setup_of p).state headed).state

  opened_is : opened ≡ opened_by (beginning p First 1) false (seen_of p d)
  opened_is =
      let o = success_opens p d taken e in
      let b = ap (λ (x : Stepped). x.state) (setup_taken p taken) in
      ap (λ (s : Collection). (step_by s headed).state) b
      ∙ ap (λ (y : Stepped). y.state)
      (first_opens (beginning p First 1) true d copy (ap (λ (s : Collection). refusal_of s true (length d) copy) (sym b) ∙ r) refl refl o.good o.some o.fits)

  chunks_left : Left opened (plan_by p d).chunks
  chunks_left = subst (λ (t : Collection). Left t (plan_by p d).chunks) (sym opened_is) (opened_left (beginning p First 1) false d taken e)

  module _ (g : Succeed opened ks) where
    -- While fewer chunks than the plan says have come, a chunk is awaited.
    pub chunk_awaited : (n : ℕ) → (plan_by p d).chunks ≡ length ks + suc n → (at : ℕ) × ((after opened ks).phase ≡ Chunk at)
    chunk_awaited n m = let l = less_left opened ks (suc n) (subst (Left opened) m chunks_left) g in (l.at, some_left (after opened ks) n l)

    module _ (m : (plan_by p d).chunks ≡ length ks) where
      all_left : Left opened (length ks + 0)
      all_left = subst (Left opened) (m ∙ sym (add-zero (length ks))) chunks_left

      -- When as many have come, the closing header is awaited, and the commands sent are the first header, the planned chunks and the closing header.
      pub chunks_sent : ((after opened ks).phase ≡ Close false) × ((after opened ks).count ≡ (plan_by p d).chunks + 2)
      chunks_sent = (
        none_left (after opened ks) (less_left opened ks 0 all_left g),
        omega (arith, (succeed_counts opened ks 0 all_left g).0, ap (λ (t : Collection). t.count) opened_is, m),
      )

      -- A closing header that shows the same ends the run well on 07h, after just these commands, and on 08h one more follows.
      module _ (k : Completion) (ok : k.ok ≡ true) (t : refusal_of (after opened ks) true (length k.bytes) k.copy ≡ success) (same : seen_of p k.bytes ≡ seen_of p d) where
        abbrev s : Collection
        s = after opened ks

        plan_is : s.plan ≡ p
        plan_is = (succeed_counts opened ks 0 all_left g).1 ∙ ap (λ (x : Collection). x.plan) opened_is

        seen_is : seen_of s.plan k.bytes ≡ seen_of p d
        seen_is = ap (λ (q : Plan). seen_of q k.bytes) plan_is ∙ same

        opens : Opens p (seen_of p d)
        opens = success_opens p d taken e

        good : faultless (seen_of s.plan k.bytes).fault ≡ true
        good = ap (λ (h : Seen). faultless h.fault) seen_is ∙ opens.good

        some : shows_none s.plan (seen_of s.plan k.bytes) ≡ false
        some = rw (seen_is, plan_is) opens.some

        attempt_is : s.attempt ≡ record { number = 1; generation = (seen_of p d).generation; last = (seen_of p d).last }
        attempt_is = (succeed_counts opened ks 0 all_left g).2 ∙ ap (λ (x : Collection). x.attempt) opened_is

        match : matches s.attempt (seen_of s.plan k.bytes) ≡ true
        match = rw (seen_is, attempt_is) (rw (eq-eqb (seen_of p d).generation _ refl) (same_itself (seen_of p d).last))

        closing : closing_by s.phase ≡ true
        closing = ap closing_by chunks_sent.0

        pub ends_well : eqb p.page controller_page ≡ false → (step_by s k).next ≡ Ends (record { ending = Success false; count = (plan_by p d).chunks + 2 })
        ends_well page =
            ap (λ (b : Bool). (step_of s b k.bytes k.copy).next) ok
            ∙ ap (λ (x : Stepped). x.next)
            (later_done s true k.bytes k.copy t closing refl good some match (ap refused_by chunks_sent.0) (ap (λ (q : Plan). eqb q.page controller_page) plan_is ∙ page))
            ∙ ap (λ (n : ℕ). Ends (record { ending = Success false; count = n })) chunks_sent.1

        pub acknowledges : eqb p.page controller_page ≡ true → ((step_by s k).state.phase ≡ Ack) × ((step_by s k).state.count ≡ (plan_by p d).chunks + 3)
        acknowledges page =
            let x : (step_by s k).state ≡ in_phase s Ack =
            ap (λ (b : Bool). (step_of s b k.bytes k.copy).state) ok
            ∙ ap (λ (x : Stepped). x.state)
            (later_acknowledges s true k.bytes k.copy t closing refl good some match (ap refused_by chunks_sent.0) (ap (λ (q : Plan). eqb q.page controller_page) plan_is ∙ page)) in
            (ap (λ (y : Collection). y.phase) x, omega (arith, ap (λ (y : Collection). y.count) x, chunks_sent.1))
