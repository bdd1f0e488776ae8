-- Demand 3, of the project's own controller and collection.
-- Assumes nothing.
use Rattle.std.specs.Prelude.{ℕ, ◌+◌, ◌-◌, ◌*◌, ◌≤◌, ◌<◌, ◌≡◌, List, ◌++◌, Bool, true, false, length, ltb, eqb}
use Rattle.std.proofs.Math.Path.{subst}
use Rattle.std.proofs.Common.{ap, arith}
use borrow.Author.Tests.{eqb-true}
use Rattle.choices.specs.Tests.{and_left, and_right}
use Rattle.copies.specs.Parts.{zeros}
use Rattle.answers.specs.Answers.{success, no_room, withdrawn, nothing, out_of_reach}
use Rattle.pages.specs.Pages.{controller_page, block, most4}
use Rattle.records.specs.Records.{controller_fields, fields_for}
use Rattle.records.specs.Back.{Typed}
use Rattle.plans.specs.declared.Plan.{Plan}
use Rattle.phases.specs.declared.Phase.TheVariants.{First}
use Rattle.plans.specs.Plans.{setup_answer, area_last, reach}
use Rattle.phases.specs.Asked.{words_by}
use Rattle.completions.specs.Completions.{shows_none}
use Rattle.endings.specs.Endings.{number_of, newer_of}
use Rattle.collection.specs.declared.Finish.{Finish}
use Rattle.collection.specs.declared.Next.TheVariants.{End as Ends, Refuse}
use Rattle.verdicts.specs.Accepted.{unless_disagree}
use Rattle.controller.specs.Controller.{World, lent_by}
use Rattle.controller.specs.Asked.{asked}
use Rattle.controller.proofs.Laws.{command_answer_lem}
use Rattle.runs.specs.Run.{most_chunks}
use Rattle.sources.specs.Source.{Collector, ours, Turn, Stand, for_lent, collected}
use Rattle.sources.specs.Promise.{Told, succeeded, lacked, unreached, withdrew, empty, noticed, most_commands, Finished}
use Rattle.sources.proofs.Demand.{demand, first_fair}
use Rattle.sources.specs.Few.{Among}
use Rattle.sources.proofs.Few.{among, noticed_few}
use Rattle.demand3.specs.Bench.{Loan, own_of, controller_source}
use Rattle.demand3.specs.Shown.{shows_for, wanted_area, Good}
use Rattle.demand3.specs.Own.{not_four}
use Rattle.demand3.specs.Instance.{controller_keeps}

-- A run: a collection of plan p by the collector c into this copy, from the controller as it stands in w; its first command with what it is lent, and
-- then turns, each of any events and a command with what that is lent.
module _ (c : Collector) (p : Plan) (copy : List ℕ) (w : World) (first : Loan) (ts : List (Turn (controller_source p.page))) where
  unfoldable pub final : Stand (controller_source p.page)
  final = collected c (controller_source p.page) p copy w first ts

  -- ---- what is asked of it

  pub record Asked (k : ℕ) : Type 0 where
    -- setup takes the plan, which has the controller's capabilities, and the copy is as long as it says
    pub taken : setup_answer p ≡ success
    pub caps : w.own.caps ≡ p.caps
    pub room : length copy ≡ p.room
    -- what the types say of the record
    pub typed : Typed w.own
    -- at most k captures and drops of the page after the first command, both together, and more than k attempts
    pub attempts : k < p.attempts
    pub changes : final.counts.changes ≤ k
    -- none of the run's commands was answered 3, 4 or 5
    pub spared : final.counts.lent_refusals ≡ 0

  -- ---- what is promised

  -- how it may end, v being the controller at the last check, the last header that was judged, and newer what is said of captures after it
  pub data TrueEnding (newer : Bool) (e : Finish) (v : World) : Type 0 where
    -- 0: the copy is the wanted area of v and then zeros
    succeeded_by : number_of e.ending ≡ success → final.copy ≡ wanted_area p v ++ zeros (p.room - length (wanted_area p v)) → newer_of e.ending ≡ newer → TrueEnding newer e v
    -- 8: the wanted area of v, which is in reach, is larger than the copy, which is zeros
    room_short : number_of e.ending ≡ no_room → final.copy ≡ zeros p.room
        → (p.caps.extended ≡ false → area_last p (fields_for p.page v.own).last ≤ reach)
        → p.room < block * area_last p (fields_for p.page v.own).last
        → TrueEnding newer e v
    -- 19: there is no extended data, and the wanted area of v is past block 31, the last in reach; the copy is zeros
    past_reach : number_of e.ending ≡ out_of_reach → final.copy ≡ zeros p.room
        → p.caps.extended ≡ false → reach < area_last p (fields_for p.page v.own).last
        → TrueEnding newer e v
    -- 10: the page is 08h, and its TCDA went to 0 after the first header
    gone : number_of e.ending ≡ withdrawn → final.copy ≡ zeros p.room → p.page ≡ controller_page → v.own.controller.tcda ≡ 0 → 2 ≤ length final.sent → TrueEnding newer e v
    -- 11: the page is 08h, and its TCDA was 0 at the first header
    never_there : number_of e.ending ≡ nothing → final.copy ≡ zeros p.room → p.page ≡ controller_page → v.own.controller.tcda ≡ 0 → length final.sent ≡ 1 → TrueEnding newer e v

  pub record Demand3 (k : ℕ) (newer : Bool) : Type 0 where
    -- the reported count is the number of commands in the run's record
    pub counted : final.collection.count ≡ length final.sent
    pub says : (e : Finish) → final.said ≡ Ends e → e.count ≡ length final.sent
    -- it is within 1 + (k + 1)(C + 1), one more on 08h, C being the greatest number of chunks planned from a judged header, and also with C at the
    -- house limit
    pub bounded : final.collection.count ≤ most_commands p k (most_chunks p final.headers)
    pub limited : final.collection.count ≤ most_commands p k most4
    -- without extended data C is 1 at most
    pub once : p.caps.extended ≡ false → final.collection.count ≤ most_commands p k 1
    -- and so many completions end the run
    pub ends : most_commands p k (most_chunks p final.headers) ≤ 1 + length ts → Finished (controller_source p.page) final
    pub ends_limited : most_commands p k most4 ≤ 1 + length ts → Finished (controller_source p.page) final
    pub ends_once : p.caps.extended ≡ false → most_commands p k 1 ≤ 1 + length ts → Finished (controller_source p.page) final
    -- never 13, 14 or 15
    pub never : (n : ℕ) → final.said ≡ Refuse n → ⊥
    -- every ending is one of the five, and true
    pub ended : (e : Finish) → final.said ≡ Ends e → TrueEnding newer e final.checked

-- ---- the theorems, of our collector

module _ (p : Plan) (copy : List ℕ) (w : World) (first : Loan) (ts : List (Turn (controller_source p.page))) where
  abbrev end : Stand (controller_source p.page)
  end = final ours p copy w first ts

  -- a header of 08h that shows no data
  none_shown : shows_none p (shows_for p.page end.checked) ≡ true → (p.page ≡ controller_page) × (end.checked.own.controller.tcda ≡ 0)
  unfolding shows_for fields_for controller_fields
  none_shown n =
      let q = eqb-true p.page controller_page (and_left (eqb p.page controller_page) _ n) in
      let z = eqb-true _ 0 (and_right (eqb p.page controller_page) (eqb (fields_for p.page end.checked.own).tcda 0) n) in
      (q, subst (λ (page : ℕ). (fields_for page end.checked.own).tcda ≡ 0) q z)

  told : (e : setup_answer p ≡ success) (x : Finish) → Told (controller_source p.page) p (controller_keeps p e) x end → TrueEnding ours p copy w first ts (noticed end.counts.captures) x end.checked
  unfolding controller_keeps shows_for
  told e x (succeeded a c l) = succeeded_by (ap number_of a) c (ap newer_of a)
  told e x (lacked a c n r) = room_short (ap number_of a) c n r
  told e x (unreached a c o r) = past_reach (ap number_of a) c o r
  told e x (withdrew a c n t) = let q = none_shown n in gone (ap number_of a) c q.0 q.1 t
  told e x (empty a c n t) = let q = none_shown n in never_there (ap number_of a) c q.0 q.1 t

  -- a first command that is not answered 4 finds an agreeing controller
  good : (k : ℕ) → Asked ours p copy w first ts k → Good p w
  unfolding final own_of
  good k a =
      let words = words_by First p (zeros 4) in
      let fair = first_fair (controller_source p.page) p (controller_keeps p a.taken) copy w first ts a.taken a.spared in
      let answer = command_answer_lem w first.candidate words first.buf in
      record {
        agrees =
            unless_disagree w.own (asked w words) first.candidate.last (lent_by w first.candidate first.buf)
            (not_four _ (subst (λ (n : ℕ). for_lent n ≡ false) answer fair));
        typed = a.typed;
        caps = a.caps;
      }

  -- With at most 255 captures of the page between a header that opens an attempt and the one that closes it. Of captures after the last check, which count for k
  -- alone, it is said that one was acknowledged unread just where their number is no multiple of 256.
  pub demand3 : (k : ℕ) → Asked ours p copy w first ts k → end.counts.most_in_attempt ≤ 255 → Demand3 ours p copy w first ts k (noticed end.counts.captures)
  unfolding controller_keeps final
  demand3 k a few =
      let d = demand (controller_source p.page) p (controller_keeps p a.taken) copy w first ts a.taken a.room (good k a) k a.attempts a.changes few a.spared in
      let r = d.0 in
      record {
        counted = r.counted;
        says = r.says;
        bounded = r.bounded;
        limited = r.limited;
        once = r.once;
        ends = λ h. d.1 _ r.bounded h;
        ends_limited = λ h. d.1 _ r.limited h;
        ends_once = λ o h. d.1 _ (r.once o) h;
        never = r.never;
        ended = λ x q. told a.taken x (r.told x q);
      }

  -- With k at most 255 that is so by itself, and a newer capture is said to have been acknowledged unread just where one came after the last check.
  pub demand3_few : (k : ℕ) → Asked ours p copy w first ts k → k ≤ 255 → Demand3 ours p copy w first ts k (ltb 0 end.counts.captures)
  unfolding final
  demand3_few k a few =
      let c : Among end.counts = among ours (controller_source p.page) p copy w first ts in
      subst (λ (newer : Bool). Demand3 ours p copy w first ts k newer) (noticed_few end.counts.captures (omega (arith, c.since, a.changes)))
      (demand3 k a (omega (arith, c.most, a.changes)))
