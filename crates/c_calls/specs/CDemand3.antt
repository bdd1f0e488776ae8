-- Demand 3 for a C program: what it may rest on, said of the bytes and numbers that it holds.
-- Assumes nothing.
use Rattle.std.specs.Prelude.{ℕ, ◌+◌, ◌-◌, ◌*◌, ◌≤◌, ◌<◌, ◌≡◌, refl, List, ◌++◌, Bool, false, length, get_or, ltb, eqb}
use Rattle.std.proofs.Common.{sym, ◌∙◌, arith}
use Rattle.std.proofs.Math.Path.{ap, subst}
use Rattle.choices.specs.Choice.{one}
use Rattle.copies.specs.Parts.{zeros}
use Rattle.littleendian.specs.Numbers.{value_at}
use Rattle.littleendian.specs.Back.{Bytes}
use Rattle.answers.specs.Answers.{success, no_room, withdrawn, nothing, out_of_reach}
use Rattle.pages.specs.Pages.{controller_page, block, most4}
use Rattle.plans.specs.declared.Plan.{Plan}
use Rattle.plans.specs.Plans.{setup_answer, reach}
use Rattle.endings.specs.Endings.{number_of, newer_of}
use Rattle.collection.specs.declared.Collection.{Collection}
use Rattle.collection.specs.declared.Finish.{Finish}
use Rattle.collection.specs.Told.{Next}
use Rattle.collection.specs.declared.Next.TheVariants.{Send, End as Ends, Refuse}
use Rattle.collection.specs.Collection.{setup_of}
use Rattle.controller.specs.Controller.{World}
use Rattle.runs.specs.Run.{given, most_chunks}
use Rattle.sources.specs.Source.{ours, Turn, Stand, Counters}
use Rattle.sources.specs.Promise.{noticed, most_commands, Finished}
use Rattle.sources.specs.Few.{Among}
use Rattle.sources.proofs.Few.{among, noticed_few}
use Rattle.demand3.specs.Bench.{Loan, controller_source}
use Rattle.demand3.specs.Demand3.{final, TrueEnding, succeeded_by, room_short, past_reach, gone, never_there, Demand3, demand3}
use Rattle.shared_layouts.specs.Layouts.{caps_of}
use Rattle.state_layout.specs.Layout.{state_at}
use Rattle.record_layout.specs.Layout.{record_at}
use Rattle.next_layout.specs.Layout.{send, ending, refusal, kind_of, next_bytes}
use Rattle.host_boundary.specs.Boundary.{setup_plan}
use Rattle.c_calls.specs.Calls.{Controller, last_in, area_in, Program, kind_in, answer_in, newer_in, own, program}
use Rattle.c_calls.specs.Record.{record_typed}
use Rattle.c_calls.specs.Next.{kind_back, answer_back, newer_back, count_back}
use Rattle.c_calls.specs.Same.{world_at, Fit, Same, program_same}
use Rattle.c_calls.specs.First.{setup_sends, first_fit}
use Rattle.c_calls.specs.Area.{last_is, area_is, long_is}

-- A program that calls `bumbazeel_setup` with these numbers, and has this copy and, at its first command, this controller; that command with what it is
-- lent, and then turns, each of any events and a command with what that is lent.
module _ (page create area caps chunk attempts room : ℕ) (copy : List ℕ) (b : Controller) (first : Loan) (ts : List (Turn (controller_source page))) where
  -- what setup is asked for
  abbrev p : Plan
  p = setup_plan page create area caps chunk attempts room

  -- where the program stands after its turns
  abbrev last : Program
  last = program p copy b first ts

  -- ---- what is asked of it

  pub record CAsked (k : ℕ) : Type 0 where
    -- setup answers BUMBAZEEL_SEND; it is told `caps` of the record, and how long the copy is
    pub sends : kind_of (setup_of p).next ≡ send
    pub same_caps : get_or b.own 0 0 ≡ caps
    pub whole_copy : length copy ≡ room
    -- struct bumbazeel_record is 300 bytes
    pub long : length b.own ≡ 300
    pub bytes : Bytes b.own
    -- at most k captures and drops of the page after the first command, both together, and more than k attempts
    pub more : k < attempts
    pub changes : last.counts.changes ≤ k
    -- none of the program's own commands was answered 3, 4 or 5
    pub spared : last.counts.lent_refusals ≡ 0

  -- ---- what is promised

  -- how it may end, by `answer` of struct bumbazeel_next; the last check is the last header that was judged, and newer what `newer` says of captures after it
  pub data CTrueEnding (newer : Bool) : Type 0 where
    -- 0: the copy is the wanted area as it stood at the last check, and then zeros
    succeeds : answer_in last.next ≡ success
        → last.copy ≡ area_in page area last.checked ++ zeros (room - block * last_in page area last.checked)
        → newer_in last.next ≡ one newer
        → CTrueEnding newer
    -- 8: the wanted area, which was in reach, was larger than the copy, which is zeros
    lacks_room : answer_in last.next ≡ no_room → last.copy ≡ zeros room
        → ((caps_of caps).extended ≡ false → last_in page area last.checked ≤ reach)
        → room < block * last_in page area last.checked
        → CTrueEnding newer
    -- 19: `caps` has no extended data, and the wanted area was past block 31, the last in reach; the copy is zeros
    reaches_not : answer_in last.next ≡ out_of_reach → last.copy ≡ zeros room
        → (caps_of caps).extended ≡ false → reach < last_in page area last.checked
        → CTrueEnding newer
    -- 10: the page is 08h, and `available` of the record was 0 at the last check, which was not the first header
    withdraws : answer_in last.next ≡ withdrawn → last.copy ≡ zeros room
        → page ≡ controller_page → get_or last.checked.own 5 0 ≡ 0 → 2 ≤ last.made
        → CTrueEnding newer
    -- 11: the page is 08h, and `available` of the record was 0 at the first header
    finds_nothing : answer_in last.next ≡ nothing → last.copy ≡ zeros room
        → page ≡ controller_page → get_or last.checked.own 5 0 ≡ 0 → last.made ≡ 1
        → CTrueEnding newer

  pub record CDemand3 (k : ℕ) (newer : Bool) : Type 0 where
    -- `count` of struct bumbazeel_state is how often the program called `bumbazeel_command`, one more while a command is awaited; with an ending `count` of
    -- struct bumbazeel_next is that number
    pub counted : value_at 8 32 last.state ≡ last.made + one (eqb (kind_in last.next) send)
    pub says : kind_in last.next ≡ ending → value_at 8 24 last.next ≡ last.made
    -- it is within 1 + (k + 1)(C + 1), one more on 08h, C being the greatest number of chunks planned from a judged header, and also with C at the house limit
    pub bounded : value_at 8 32 last.state ≤ most_commands p k (most_chunks p last.headers)
    pub limited : value_at 8 32 last.state ≤ most_commands p k most4
    -- without extended data C is 1 at most
    pub once : (caps_of caps).extended ≡ false → value_at 8 32 last.state ≤ most_commands p k 1
    -- and so many commands end the loop
    pub ends : most_commands p k (most_chunks p last.headers) ≤ 1 + length ts → kind_in last.next ≡ ending
    pub ends_limited : most_commands p k most4 ≤ 1 + length ts → kind_in last.next ≡ ending
    pub ends_once : (caps_of caps).extended ≡ false → most_commands p k 1 ≤ 1 + length ts → kind_in last.next ≡ ending
    -- no step answers BUMBAZEEL_REFUSED
    pub never : kind_in last.next ≡ refusal → ⊥
    -- every ending is one of the five, and true
    pub ended : kind_in last.next ≡ ending → CTrueEnding newer

  -- ---- the theorems

  module _ (k : ℕ) (a : CAsked k) where
    set_up : setup_answer p ≡ success
    set_up = setup_sends p a.sends

    same_caps : (record_at b.own).caps ≡ p.caps
    unfolding record_at
    same_caps = ap caps_of a.same_caps

    fit : Fit p b
    fit = first_fit p copy b first ts a.sends a.spared (record_typed b.own a.long a.bytes) same_caps

    -- the run that the calls are
    abbrev s : Stand (controller_source page)
    s = final ours p copy (world_at b) first ts

    r : Same p set_up last s
    r = program_same p set_up copy b first ts fit

    counted_among : Among last.counts
    unfolding final
    counted_among = subst Among (sym r.counts) (among ours (controller_source page) p copy (world_at b) first ts)

    count_is : value_at 8 32 last.state ≡ s.collection.count
    unfolding state_at
    count_is = ap (λ (x : Collection). x.count) r.state

    kind_is : kind_in last.next ≡ kind_of s.said
    kind_is = ap kind_in r.next ∙ kind_back s.said

    awaited : (n : Next) → length (given n) ≡ one (eqb (kind_of n) send)
    awaited (Send w) = refl
    awaited (Ends e) = refl
    awaited (Refuse n) = refl

    chunks_are : most_chunks p last.headers ≡ most_chunks p s.headers
    chunks_are = ap (most_chunks p) r.headers

    module _ (few : last.counts.most_in_attempt ≤ 255) where
      -- what demand 3 says of it
      d : Demand3 ours p copy (world_at b) first ts k (noticed s.counts.captures)
      d =
          demand3 p copy (world_at b) first ts k
          (record {
            taken = set_up;
            caps = same_caps;
            room = a.whole_copy;
            typed = fit.good.typed;
            attempts = a.more;
            changes = subst (λ (x : Counters). x.changes ≤ k) r.counts a.changes;
            spared = ap (λ (x : Counters). x.lent_refusals) (sym r.counts) ∙ a.spared;
          })
          (subst (λ (x : Counters). x.most_in_attempt ≤ 255) r.counts few)

      -- ---- an ending

      module _ (e : Finish) (q : s.said ≡ Ends e) where
        next_is : last.next ≡ next_bytes (Ends e)
        next_is = r.next ∙ ap next_bytes q

        answer_is : answer_in last.next ≡ number_of e.ending
        answer_is = ap answer_in next_is ∙ answer_back (Ends e)

        newer_is : newer_in last.next ≡ one (newer_of e.ending)
        newer_is = ap newer_in next_is ∙ newer_back e

        all_made : length s.sent ≡ last.made
        all_made = let none : length (given s.said) ≡ 0 = ap (λ (n : Next). length (given n)) q in omega (arith, r.made, none)

        says_made : value_at 8 24 last.next ≡ last.made
        says_made =
            let small = r.typed.count in
            let whole = ap (λ (x : Collection). x.count) r.state in
            ap (λ (l : List ℕ). value_at 8 24 l) next_is ∙ count_back e (omega (arith, d.says e q, d.counted, whole, small)) ∙ d.says e q ∙ all_made

        true_ending : TrueEnding ours p copy (world_at b) first ts (noticed s.counts.captures) e (world_at last.checked) → CTrueEnding (noticed last.counts.captures)
        unfolding record_at
        true_ending (succeeded_by n c f) =
            succeeds (answer_is ∙ n)
            (r.copy ∙ c ∙ rw (long_is p set_up last.checked, area_is p set_up last.checked r.checked_fit))
            (newer_is ∙ ap one (f ∙ ap (λ (x : Counters). noticed x.captures) (sym r.counts)))
        true_ending (room_short n c g f) =
            let l = last_is p set_up last.checked in
            lacks_room (answer_is ∙ n) (r.copy ∙ c) (λ o. omega (arith, l, g o)) (omega (arith, l, f))
        true_ending (past_reach n c o f) = reaches_not (answer_is ∙ n) (r.copy ∙ c) o (omega (arith, last_is p set_up last.checked, f))
        true_ending (gone n c h z m) = withdraws (answer_is ∙ n) (r.copy ∙ c) h z (omega (arith, all_made, m))
        true_ending (never_there n c h z m) = finds_nothing (answer_is ∙ n) (r.copy ∙ c) h z (omega (arith, all_made, m))

      ending_says : (n : Next) → s.said ≡ n → kind_of n ≡ ending → (value_at 8 24 last.next ≡ last.made) × CTrueEnding (noticed last.counts.captures)
      ending_says (Send w) q z = absurd (omega arith)
      ending_says (Refuse n) q z = absurd (omega arith)
      ending_says (Ends e) q z = (
        says_made e q,
        true_ending e q (subst (λ (v : World). TrueEnding ours p copy (world_at b) first ts (noticed s.counts.captures) e v) (sym r.checked) (d.ended e q)),
      )

      refused_never : (n : Next) → s.said ≡ n → kind_of n ≡ refusal → ⊥
      refused_never (Send w) q z = absurd (omega arith)
      refused_never (Ends e) q z = absurd (omega arith)
      refused_never (Refuse n) q z = d.never n q

      has_ended : Finished (controller_source page) s → kind_in last.next ≡ ending
      has_ended f = kind_is ∙ ap kind_of f.said

      -- Setup, command, capture, drop and step on bytes, each lent the bytes that the last call left, are a run, and demand 3 holds of it, with at most 255 captures
      -- of the page between a header that opens an attempt and the one that closes it. `newer` is 1 just where the captures after the last check are no multiple of 256.
      pub c_demand3 : CDemand3 k (noticed last.counts.captures)
      c_demand3 = record {
        counted = count_is ∙ d.counted ∙ r.made ∙ ap (λ (n : ℕ). last.made + n) (awaited s.said ∙ ap (λ (n : ℕ). one (eqb n send)) (sym kind_is));
        says = λ q. (ending_says s.said refl (sym kind_is ∙ q)).0;
        bounded = rw (count_is, chunks_are) d.bounded;
        limited = omega (arith, count_is, d.limited);
        once = λ o. omega (arith, count_is, d.once o);
        ends = λ h. has_ended (d.ends (rw chunks_are at h));
        ends_limited = λ h. has_ended (d.ends_limited h);
        ends_once = λ o h. has_ended (d.ends_once o h);
        never = λ q. refused_never s.said refl (sym kind_is ∙ q);
        ended = λ q. (ending_says s.said refl (sym kind_is ∙ q)).1;
      }

    -- With k at most 255 that is so by itself, and `newer` is 1 just where a capture came after the last check.
    pub c_demand3_few : k ≤ 255 → CDemand3 k (ltb 0 last.counts.captures)
    c_demand3_few few =
        subst (λ (newer : Bool). CDemand3 k newer) (noticed_few last.counts.captures (omega (arith, counted_among.since, a.changes)))
        (c_demand3 (omega (arith, counted_among.most, a.changes)))
