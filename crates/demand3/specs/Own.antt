-- What the controller answers to a collection's own commands, where it refuses none of them for lent data.
-- Assumes nothing.
use Rattle.std.specs.Prelude.{ℕ, ◌+◌, ◌-◌, ◌*◌, ◌≤◌, ◌≡◌, refl, Bool, not, ◌&&◌}
use Rattle.std.proofs.Math.Path.{sym, ap, subst}
use Rattle.std.proofs.Common.{◌∙◌, arith}
use mathlib.Core.List.{List, ◌++◌}
use Rattle.std.proofs.Math.Bool.{true, false}
use Rattle.std.proofs.Math.ListN.{length, take, drop}
use Rattle.std.proofs.Math.Seq.{take_at, take-take}
use borrow.Author.Tests.{le-leb, not-false}
use Rattle.choices.specs.Choice.{pick}
use Rattle.choices.specs.Tests.{clash, each, same_or_not}
use Rattle.copies.specs.Lists.{drop-take}
use Rattle.answers.specs.Answers.{success, short_buffer, disagree, broken_candidate}
use Rattle.pages.specs.declared.Caps.{Caps}
use Rattle.pages.specs.Pages.{host_page, block, last_of, size_of}
use Rattle.trimming.specs.Trimming.{top_of}
use Rattle.words.specs.declared.Command.{Command}
use Rattle.words.specs.declared.Words.{Words}
use Rattle.words.specs.Words.{taken}
use Rattle.words.specs.Back.{meant}
use Rattle.header.specs.Header.{header_of}
use Rattle.records.specs.Records.{fields_for, blocks_for, size_for}
use Rattle.serving.specs.Serving.{window_of, window_length, window_after}
use Rattle.verdicts.specs.Verdicts.{candidate_ok, last_after, command_answer}
use Rattle.verdicts.specs.Accepted.{accepted, spared}
use Rattle.plans.specs.declared.Plan.{Plan}
use Rattle.phases.specs.Awaited.{asks_offset, ask_few, chunk_taken_lem}
use Rattle.plans.specs.Limits.{plan_taken}
use Rattle.phases.specs.Chunks.{chunk_inside, chunk_ends}
use Rattle.plans.specs.Plans.{plan_tests, setup_answer, area_last, area_bytes, fits, chunk_of, lead_of}
use Rattle.phases.specs.Asked.{start_of, chunk_in, chunk_blocks, inside_by, expected_by}
use Rattle.completions.specs.Completions.{seen_of}
use Rattle.phases.specs.declared.Phase.TheVariants.{Chunk}
use Rattle.controller.specs.Controller.{World, Candidate, Outcome, outcome, lent_by, afterwards, host_captured, command_of, store_for, page_of}
use Rattle.controller.specs.Asked.{asked}
use Rattle.controller.proofs.Laws.{command_answer_lem, refusal_changes_nothing}
use Rattle.demand3.specs.Answered.{header_long, Ready, Allowed, header_allowed, sends, asked_is, valid, header_taken, create_taken, last_read, read_done, own_read, own_header, own_create, own_blocks, retained}
use Rattle.sources.specs.Source.{for_lent}
use Rattle.sources.specs.Keeps.{Header}
use Rattle.demand3.specs.Bench.{Sent, Loan, act_of, own_of}
use Rattle.demand3.specs.Shown.{shows_for, wanted_area, Good, plan_page, header_shown, area_blocks, area_stored}
use Rattle.demand3.specs.Events.{act_good}

-- an answer that is none of 3, 4 and 5
not_three : (n : ℕ) → for_lent n ≡ false → n ≡ short_buffer → ⊥
not_three n e q = clash {t = true} refl (rw q at e)

not_five : (n : ℕ) → for_lent n ≡ false → n ≡ broken_candidate → ⊥
not_five n e q = clash {t = true} refl (rw q at e)

pub not_four : (n : ℕ) → for_lent n ≡ false → n ≡ disagree → ⊥
not_four n e q = clash {t = true} refl (rw q at e)

module _ (p : Plan) (e : setup_answer p ≡ success) (w : World) (g : Good p w) (l : Loan) where
  telemetry : w.own.caps.telemetry ≡ true
  telemetry = ap (λ (c : Caps). c.telemetry) g.caps ∙ each (plan_tests p) (plan_taken p e).0 5

  abbrev extended : Bool
  extended = w.own.caps.extended

  abbrev candidate : Candidate
  candidate = l.candidate

  ready : (bytes : ℕ) → bytes ≤ length l.buf → Ready w bytes l.buf
  ready bytes h = record { agrees = g.agrees; telemetry = telemetry; room = h }

  -- what is left of the refusals of a command that the builder takes
  spares : (create : Bool) (mcda : ℕ) (rae : Bool) (offset blocks : ℕ) → Allowed extended offset blocks → taken p.page create mcda offset blocks ≡ true → mcda ≤ 4
      → for_lent (command_of w candidate (sends p.page create mcda rae offset blocks) l.buf).answer ≡ false
      → (create && not (candidate_ok (last_of (top_of w.own.caps mcda) candidate.last) candidate.last (length candidate.bytes) (length candidate.reason) (length w.host)) ≡ false)
      × (block * offset ≤ size_of w.own.caps (last_after w.own (meant p.page create mcda rae offset blocks) candidate.last) → block * blocks ≤ length l.buf)
  spares create mcda rae offset blocks k t m f =
      let words = sends p.page create mcda rae offset blocks in
      let c = meant p.page create mcda rae offset blocks in
      let a : (command_of w candidate words l.buf).answer ≡ command_answer w.own c candidate.last (lent_by w candidate l.buf) =
      command_answer_lem w candidate words l.buf
      ∙ ap (λ (d : Command). command_answer w.own d candidate.last (lent_by w candidate l.buf)) (asked_is w p.page create mcda rae offset blocks k t) in
      let f' : for_lent (command_answer w.own c candidate.last (lent_by w candidate l.buf)) ≡ false = subst (λ (n : ℕ). for_lent n ≡ false) a f in
      spared w.own c candidate.last (lent_by w candidate l.buf) g.agrees (plan_page p e) telemetry (valid w.own.caps p.page create mcda rae offset blocks k m)
      (not_three _ f') (not_five _ f')

  -- ---- a read that starts within the page is served

  pub own_done : (rae : Bool) (offset blocks : ℕ) → Allowed extended offset blocks → taken p.page false 0 offset blocks ≡ true
      → block * offset ≤ size_for p.page w.own
      → for_lent (command_of w candidate (sends p.page false 0 rae offset blocks) l.buf).answer ≡ false
      → command_of w candidate (sends p.page false 0 rae offset blocks) l.buf ≡ read_done w p.page rae offset blocks l.buf
  own_done rae offset blocks k t near f =
      let room = (spares false 0 rae offset blocks k t (omega arith) f).1 (rw (last_read w p.page rae offset blocks candidate.last) near) in
      own_read w candidate p.page rae offset blocks l.buf (ready (block * blocks) room) k t
      ∙ ap (λ (b : Bool). pick b (read_done w p.page rae offset blocks l.buf) (outcome 1 0 w l.buf)) (le-leb (block * offset) _ near)

  -- and one that was served started there
  pub own_near : (rae : Bool) (offset blocks : ℕ) → Allowed extended offset blocks → taken p.page false 0 offset blocks ≡ true
      → (command_of w candidate (sends p.page false 0 rae offset blocks) l.buf).answer ≡ success
      → block * offset ≤ size_for p.page w.own
  own_near rae offset blocks k t a =
      let words = sends p.page false 0 rae offset blocks in
      let c = meant p.page false 0 rae offset blocks in
      let v : command_answer w.own c candidate.last (lent_by w candidate l.buf) ≡ success =
      ap (λ (d : Command). command_answer w.own d candidate.last (lent_by w candidate l.buf)) (sym (asked_is w p.page false 0 rae offset blocks k t))
      ∙ sym (command_answer_lem w candidate words l.buf) ∙ a in
      let n = (accepted w.own c candidate.last (lent_by w candidate l.buf) v).near in
      rw (last_read w p.page rae offset blocks candidate.last) at n

  -- the bytes that it transfers
  pub own_bytes : (rae : Bool) (offset blocks : ℕ) → Allowed extended offset blocks → taken p.page false 0 offset blocks ≡ true
      → command_of w candidate (sends p.page false 0 rae offset blocks) l.buf ≡ read_done w p.page rae offset blocks l.buf
      → (own_of l (sends p.page false 0 rae offset blocks) w).bytes ≡ window_of (block * offset) (block * blocks) (page_of p.page w)
  unfolding own_of
  own_bytes rae offset blocks k t q =
      let n : (asked w (sends p.page false 0 rae offset blocks)).bytes ≡ block * blocks = ap (λ (c : Command). c.bytes) (asked_is w p.page false 0 rae offset blocks k t) in
      let v = window_of (block * offset) (block * blocks) (page_of p.page w) in
      ap (λ (o : Outcome). take (asked w (sends p.page false 0 rae offset blocks)).bytes o.buf) q
      ∙ ap (λ (i : ℕ). take i (v ++ drop (block * blocks) l.buf)) n
      ∙ take_at v (drop (block * blocks) l.buf) (block * blocks) (window_length (block * offset) (block * blocks) (page_of p.page w))

  -- ---- headers

  near_header : block * 0 ≤ size_for p.page w.own
  near_header = omega arith

  own_head : (rae : Bool) → for_lent (command_of w candidate (sends p.page false 0 rae 0 1) l.buf).answer ≡ false
      → command_of w candidate (sends p.page false 0 rae 0 1) l.buf
      ≡ outcome success 0 (afterwards w (meant p.page false 0 rae 0 1)) (header_of (fields_for p.page w.own) ++ drop block l.buf)
  own_head rae f =
      let t = header_taken p.page (plan_page p e) in
      let room = (spares false 0 rae 0 1 (header_allowed extended) t (omega arith) f).1 (rw (last_read w p.page rae 0 1 candidate.last) near_header) in
      own_header w candidate p.page rae l.buf (ready block room) g.typed (plan_page p e)

  -- a success whose buffer is a header in front of what was there
  sent_header : (v : World) (words : Words) (after : World) → Good p v → (asked w words).bytes ≡ block
      → command_of w candidate words l.buf ≡ outcome success 0 after (header_of (fields_for p.page v.own) ++ drop block l.buf)
      → Header p (own_of l words w) (shows_for p.page v)
  unfolding own_of
  sent_header v words after k n q =
      let long = header_long p.page v k.typed.sized in
      let bytes : (own_of l words w).bytes ≡ header_of (fields_for p.page v.own) =
      ap (λ (o : Outcome). take (asked w words).bytes o.buf) q
      ∙ ap (λ (i : ℕ). take i (header_of (fields_for p.page v.own) ++ drop block l.buf)) n
      ∙ take_at (header_of (fields_for p.page v.own)) (drop block l.buf) block long in
      record {
        answer = ap (λ (o : Outcome). o.answer) q;
        long = ap length bytes ∙ long;
        seen = ap (seen_of p) bytes ∙ header_shown p v k (plan_page p e);
      }

  -- a header without create
  pub own_header_law : (rae : Bool) → for_lent (own_of l (sends p.page false 0 rae 0 1) w).answer ≡ false
      → Header p (own_of l (sends p.page false 0 rae 0 1) w) (shows_for p.page w)
      × ((own_of l (sends p.page false 0 rae 0 1) w).source ≡ afterwards w (meant p.page false 0 rae 0 1))
  unfolding own_of
  own_header_law rae f =
      let q = own_head rae f in
      let n = ap (λ (c : Command). c.bytes) (asked_is w p.page false 0 rae 0 1 (header_allowed extended) (header_taken p.page (plan_page p e))) in
      (sent_header w (sends p.page false 0 rae 0 1) (afterwards w (meant p.page false 0 rae 0 1)) g n q, ap (λ (o : Outcome). o.world) q)

  -- any command leaves the world a good one
  pub own_good : (words : Words) → Good p (own_of l words w).source
  unfolding own_of act_of
  own_good words = act_good p (Sent words candidate l.buf) w g

  -- with create
  pub own_create_law : p.page ≡ host_page → (mcda : ℕ) → mcda ≤ 4 → for_lent (own_of l (sends host_page true mcda true 0 1) w).answer ≡ false
      → Header p (own_of l (sends host_page true mcda true 0 1) w) (shows_for p.page (own_of l (sends host_page true mcda true 0 1) w).source)
  unfolding own_of
  own_create_law h mcda m f =
      let words = sends host_page true mcda true 0 1 in
      let t = create_taken mcda m in
      let s = spares true mcda true 0 1 (header_allowed extended) (subst (λ (n : ℕ). taken n true mcda 0 1 ≡ true) (sym h) t) m (subst (λ (n : ℕ). for_lent (command_of w candidate (sends n true mcda true 0 1) l.buf).answer ≡ false) (sym h) f) in
      let fits = not-false _ s.0 in
      let q = own_create w candidate mcda l.buf (ready block (s.1 (omega arith))) g.typed m fits in
      let v : (command_of w candidate words l.buf).world ≡ host_captured w candidate mcda = ap (λ (o : Outcome). o.world) q in
      let k : Good p (host_captured w candidate mcda) = subst (λ (x : World). Good p x) v (own_good words) in
      subst (λ (x : World). Header p (own_of l words w) (shows_for p.page x)) (sym v)
      (sent_header (host_captured w candidate mcda) words (host_captured w candidate mcda) k (ap (λ (c : Command). c.bytes) (asked_is w host_page true mcda true 0 1 (header_allowed extended) t))
      (subst (λ (n : ℕ). command_of w candidate words l.buf ≡ outcome success 0 (host_captured w candidate mcda) (header_of (fields_for n (host_captured w candidate mcda).own) ++ drop block l.buf)) (sym h) q))

  -- ---- a chunk

  -- with the blocks that come before it
  module _ (at : ℕ) (last : List ℕ) (r : fits p last ≡ true) (i : inside_by (Chunk at) p last ≡ true) where
    abbrev n : ℕ
    n = chunk_blocks (chunk_of p) at (area_last p last)

    abbrev start : ℕ
    start = start_of p at

    abbrev all : ℕ
    all = lead_of p + n

    abbrev words : Words
    words = sends p.page false 0 true start all

    is_taken : taken p.page false 0 start all ≡ true
    is_taken = chunk_taken_lem p last at e r i

    is_allowed : Allowed extended start all
    is_allowed o =
        let u = ap (λ (c : Caps). c.extended) (sym g.caps) ∙ o in
        (asks_offset (Chunk at) p last u, ask_few (Chunk at) p last e u)

    -- it leaves the world as it is
    pub chunk_keeps : for_lent (own_of l words w).answer ≡ false → (own_of l words w).source ≡ w
    unfolding own_of
    chunk_keeps f =
        same_or_not (command_of w candidate words l.buf).answer success
        (λ a.
        ap (λ (o : Outcome). o.world) (own_done true start all is_allowed is_taken (own_near true start all is_allowed is_taken a) f)
        ∙ retained w p.page false 0 start all)
        (λ a. (refusal_changes_nothing w candidate words l.buf a).0)

    -- what is served is as long as it was asked for
    pub chunk_long : for_lent (own_of l words w).answer ≡ false → (own_of l words w).answer ≡ success → length (own_of l words w).bytes ≡ expected_by (Chunk at) p last
    unfolding own_of
    chunk_long f a =
        ap length (own_bytes true start all is_allowed is_taken (own_done true start all is_allowed is_taken (own_near true start all is_allowed is_taken a) f))
        ∙ window_length (block * start) (block * all) (page_of p.page w)

    -- the blocks before it dropped, it is the page's from its own block on
    after_lead : chunk_in p (window_of (block * start) (block * all) (page_of p.page w)) ≡ window_of (block * at) (block * n) (page_of p.page w)
    after_lead =
        let k = chunk_inside p last at i in
        let long : block * all ≡ block * lead_of p + block * n = omega arith in
        let from : block * start + block * lead_of p ≡ block * at = omega (arith, k.start) in
        ap (λ (m : ℕ). chunk_in p (window_of (block * start) m (page_of p.page w))) long
        ∙ window_after (block * start) (block * lead_of p) (block * n) (page_of p.page w)
        ∙ ap (λ (m : ℕ). window_of m (block * n) (page_of p.page w)) from

    -- while the area is the one that it was planned for, it is served, and brings its part of it
    pub chunk_right : for_lent (own_of l words w).answer ≡ false → (shows_for p.page w).last ≡ last
        → ((own_of l words w).answer ≡ success) × (chunk_in p (own_of l words w).bytes ≡ take (block * n) (drop (block * (at - 1)) (wanted_area p w)))
    unfolding own_of shows_for size_of
    chunk_right f same =
        let k = chunk_inside p last at i in
        let ends = chunk_ends (chunk_of p) at (area_last p last) k.high in
        let b : area_last p last ≤ blocks_for p.page w.own =
        subst (λ (a : List ℕ). area_last p a ≤ blocks_for p.page w.own) same (area_blocks p w g e) in
        let q = own_done true start all is_allowed is_taken (omega (arith, k.low, k.high, k.start)) f in
        let stored : wanted_area p w ≡ take (area_bytes p last) (store_for p.page w) =
        area_stored p w g e ∙ ap (λ (a : List ℕ). take (area_bytes p a) (store_for p.page w)) same in
        let part : take (block * n) (drop (block * (at - 1)) (take (area_bytes p last) (store_for p.page w))) ≡ take (block * n) (drop (block * (at - 1)) (store_for p.page w)) =
        ap (λ (x : List ℕ). take (block * n) x) (drop-take (area_bytes p last) (block * (at - 1)) (store_for p.page w))
        ∙ take-take (block * n) (area_bytes p last - block * (at - 1)) (drop (block * (at - 1)) (store_for p.page w)) (omega arith) in (
          ap (λ (o : Outcome). o.answer) q,
          ap (chunk_in p) (own_bytes true start all is_allowed is_taken q)
              ∙ after_lead
              ∙ own_blocks w p.page at n g.typed g.agrees (plan_page p e) k.low (omega (arith, k.high))
              ∙ sym (ap (λ (x : List ℕ). take (block * n) (drop (block * (at - 1)) x)) stored ∙ part),
        )
