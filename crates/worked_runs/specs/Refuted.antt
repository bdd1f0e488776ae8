-- What the runs show. Ours is all that demand 3 asks for and takes as many commands as the bound allows. Each lazy collector has a run that is all that is asked
-- for and breaks what is promised. And without a premise ours breaks it too.
-- Assumes nothing.
use Rattle.std.specs.Prelude.{ℕ, ◌-◌, ◌<◌, ◌≡◌, refl, List, [], ◌++◌, Bool, true, false, length, get_or, replicate}
use Rattle.std.proofs.Common.{sym, ap, ◌∙◌, arith}
use Rattle.choices.specs.Tests.{holds, clash}
use Rattle.copies.specs.Parts.{zeros}
use Rattle.answers.specs.Answers.{success}
use Rattle.lastblocks.specs.LastBlocks.{last_ok, greatest_of}
use Rattle.records.specs.Records.{identity_ok, store_ok, controller_ok, agrees_with}
use Rattle.records.specs.Back.{Typed, agreed_typed}
use Rattle.plans.specs.declared.Plan.{Plan}
use Rattle.plans.specs.Plans.{setup_answer}
use Rattle.endings.specs.declared.Ending.{Ending}
use Rattle.endings.specs.declared.Ending.TheVariants.{Success, UsedUp, BrokeItsWord, OutOfReach}
use Rattle.collection.specs.declared.Finish.{Finish}
use Rattle.collection.specs.Told.{Next}
use Rattle.collection.specs.declared.Next.TheVariants.{Send, End as Ends}
use Rattle.controller.specs.Controller.{World}
use Rattle.runs.specs.Run.{most_chunks}
use Rattle.sources.specs.Source.{Collector, ours, Turn}
use Rattle.sources.specs.Promise.{most_commands}
use Rattle.demand3.specs.Bench.{controller_source}
use Rattle.demand3.specs.Shown.{shows_for, area_long}
use Rattle.demand3.specs.Demand3.{Asked, TrueEnding, succeeded_by, room_short, past_reach, gone, never_there, Demand3, final}
use Rattle.worked_runs.specs.Scene.{drive, host_drive, small_drive, lent_of, scene_plan, host_plan, small_plan, stale, old_drive, old_plan, far_drive}
use Rattle.worked_runs.specs.Lazy.{stops_with, never_stops, reads_once, compares_nothing, compares_generations, fakes_the_rest, invents_its_count}
use Rattle.worked_runs.specs.Computed.{run_of, undisturbed, disturbed, late, host_disturbed, host_run, small_run, two, drop_first, drop_last, Came, ends_with, old, new, mixed, computed, old_disturbed, old_run, far_run, old_stopped}
use Rattle.worked_runs.specs.Many.{soak, round, spread, stitched, round_came, round_most, spread_came, spread_most}

-- ---- what is asked for

typed : Typed drive.own
unfolding agrees_with store_ok controller_ok identity_ok greatest_of last_ok holds
typed = agreed_typed drive.own 0 1024 refl (record { host_four = refl; host_reason = refl; controller_four = refl; controller_reason = refl }) (omega arith) (omega arith)

-- of a run of any collector with two attempts and one capture at most
abbrev pub Meant : Collector → List (Turn (controller_source 8)) → ℕ → Type 0
Meant c ts k = Asked c (scene_plan 2) (stale 1024) drive (lent_of 512) ts k

-- and it breaks what is promised, whatever is to be said of newer captures
abbrev pub Breaks : Collector → List (Turn (controller_source 8)) → ℕ → Type 0
Breaks c ts k = (newer : Bool) → Demand3 c (scene_plan 2) (stale 1024) drive (lent_of 512) ts k newer → ⊥

meant : (c : Collector) (ts : List (Turn (controller_source 8))) (k : ℕ) {said : Next} {copy area : List ℕ} {sent chunks : ℕ} → k < 2
    → Came (scene_plan 2) (run_of c 2 512 ts) said copy area k 0 sent chunks → Meant c ts k
unfolding setup_answer holds
meant c ts k l x = record { taken = refl; caps = refl; room = refl; typed = typed; attempts = l; changes = omega (arith, x.changes_are); spared = x.refused_are }

-- ---- ours

-- On 08h, with a capture between its chunks, generation 255 to 0: the copy is the page after it, the nines are gone, and 8 commands are as many as k = 1 and
-- the C of its headers allow.
pub ours_disturbed : Meant ours (disturbed 5) 1
    × ((run_of ours 2 512 (disturbed 5)).said ≡ ends_with (Success false) 8)
    × ((run_of ours 2 512 (disturbed 5)).copy ≡ new)
    × (most_commands (scene_plan 2) 1 (most_chunks (scene_plan 2) (run_of ours 2 512 (disturbed 5)).headers) ≡ 8)
ours_disturbed =
    let x = computed.ours_disturbed in
    (meant ours (disturbed 5) 1 (omega arith) x, x.said_is, x.copy_is, ap (most_commands (scene_plan 2) 1) x.chunks_are)

old_typed : Typed old_drive.own
unfolding agrees_with store_ok controller_ok identity_ok greatest_of last_ok holds
old_typed = agreed_typed old_drive.own 0 1024 refl (record { host_four = refl; host_reason = refl; controller_four = refl; controller_reason = refl }) (omega arith) (omega arith)

-- On 08h without extended data, with a capture before the closing header: six commands, as many as k = 1 and C = 1 allow.
pub ours_old : Asked ours (old_plan 2) (stale 1024) old_drive (lent_of 1536) old_disturbed 1
    × (old_run.said ≡ ends_with (Success false) 6)
    × (old_run.copy ≡ new)
    × (most_commands (old_plan 2) 1 1 ≡ 6)
unfolding setup_answer holds
ours_old =
    let x = computed.ours_old in (
      record { taken = refl; caps = refl; room = refl; typed = old_typed; attempts = omega arith; changes = omega (arith, x.changes_are); spared = x.refused_are },
      x.said_is,
      x.copy_is,
      refl,
    )

far_typed : Typed far_drive.own
unfolding agrees_with store_ok controller_ok identity_ok greatest_of last_ok holds
far_typed = agreed_typed far_drive.own 0 16384 refl (record { host_four = refl; host_reason = refl; controller_four = refl; controller_reason = refl }) (omega arith) (omega arith)

-- On 08h without extended data, 32 blocks: 19 at the first header, and a copy of zeros.
pub ours_far : Asked ours (old_plan 2) (stale 1024) far_drive (lent_of 512) [] 0 × (far_run.said ≡ ends_with OutOfReach 1) × (far_run.copy ≡ zeros 1024)
unfolding setup_answer holds
ours_far =
    let x = computed.ours_far in
    (record { taken = refl; caps = refl; room = refl; typed = far_typed; attempts = omega arith; changes = omega (arith, x.2); spared = x.3 }, x.0, x.1)

-- On 08h, with a capture after the last check: the copy is the page before it, a newer capture is told, and it is none of the captures in an attempt.
pub ours_late : Meant ours late 1
    × ((run_of ours 2 512 late).said ≡ ends_with (Success true) 5)
    × ((run_of ours 2 512 late).copy ≡ old)
    × ((run_of ours 2 512 late).counts.most_in_attempt ≡ 0)
ours_late = let x = computed.ours_late in (meant ours late 1 (omega arith) x, x.said_is, x.copy_is, computed.late_most)

host_typed : Typed host_drive.own
unfolding agrees_with store_ok controller_ok identity_ok greatest_of last_ok holds
host_typed = agreed_typed host_drive.own 2560 0 refl (record { host_four = refl; host_reason = refl; controller_four = refl; controller_reason = refl }) (omega arith) (omega arith)

-- On 07h, three chunks of an area of five blocks, another host's create after the first: nine commands, again as many as the bound allows.
pub ours_host : Asked ours host_plan (stale 3072) host_drive (lent_of 1024) host_disturbed 1
    × (host_run.said ≡ ends_with (Success false) 9)
    × (host_run.copy ≡ replicate 2560 3 ++ zeros 512)
    × (most_commands host_plan 1 (most_chunks host_plan host_run.headers) ≡ 9)
unfolding setup_answer holds
ours_host =
    let x = computed.ours_host in (
      record { taken = refl; caps = refl; room = refl; typed = host_typed; attempts = omega arith; changes = omega (arith, x.changes_are); spared = x.refused_are },
      x.said_is,
      x.copy_is,
      ap (most_commands host_plan 1) x.chunks_are,
    )

small_typed : Typed (small_drive two).own
unfolding agrees_with store_ok controller_ok identity_ok greatest_of last_ok holds
small_typed = agreed_typed (small_drive two).own 1024 0 refl (record { host_four = refl; host_reason = refl; controller_four = refl; controller_reason = refl }) (omega arith) (omega arith)

-- what is asked for of a run of any collector on the small drive's area 3, with so many attempts and this k, and that it breaks what is promised
abbrev pub SmallMeant : Collector → (attempts k : ℕ) → List (Turn (controller_source 7)) → Type 0
SmallMeant c attempts k ts = Asked c (small_plan 3 1 attempts) (stale 1024) (small_drive two) (lent_of 1024) ts k

abbrev pub SmallBreaks : Collector → (attempts k : ℕ) → List (Turn (controller_source 7)) → Type 0
SmallBreaks c attempts k ts = (newer : Bool) → Demand3 c (small_plan 3 1 attempts) (stale 1024) (small_drive two) (lent_of 1024) ts k newer → ⊥

small_meant : (c : Collector) (attempts k : ℕ) (ts : List (Turn (controller_source 7))) {said : Next} {copy area : List ℕ} {sent chunks : ℕ}
    → setup_answer (small_plan 3 1 attempts) ≡ success → k < attempts
    → Came (small_plan 3 1 attempts) (small_run c 3 1 attempts two ts) said copy area k 0 sent chunks → SmallMeant c attempts k ts
small_meant c attempts k ts e l x = record { taken = e; caps = refl; room = refl; typed = small_typed; attempts = l; changes = omega (arith, x.changes_are); spared = x.refused_are }

-- On 07h, a firmware commit before the first of two chunks empties the page: the second chunk is refused, the closing header has the generation of the
-- first header and other last blocks, which is no 12 but the next attempt, and that ends well with no blocks after five commands; so does one after the last
-- chunk, which throws a whole copy away.
pub ours_dropped : SmallMeant ours 2 1 (drop_first 5)
    × ((small_run ours 3 1 2 two (drop_first 5)).said ≡ ends_with (Success false) 5) × ((small_run ours 3 1 2 two (drop_first 5)).copy ≡ zeros 1024)
    × ((small_run ours 3 1 2 two (drop_first 5)).counts.most_in_attempt ≡ 0)
    × SmallMeant ours 2 1 (drop_last 3)
    × ((small_run ours 3 1 2 two (drop_last 3)).said ≡ ends_with (Success false) 5) × ((small_run ours 3 1 2 two (drop_last 3)).copy ≡ zeros 1024)
unfolding setup_answer holds
ours_dropped =
    let x = computed.dropped_early in
    let y = computed.dropped_late in
    (small_meant ours 2 1 (drop_first 5) refl (omega arith) x, x.said_is, x.copy_is, computed.dropped_most, small_meant ours 2 1 (drop_last 3) refl (omega arith) y, y.said_is, y.copy_is)

-- On 07h, 300 captures of the same areas, 150 in each of the first two attempts: the third one ends well after ten commands with the page as it is then.
pub ours_spread : SmallMeant ours 301 300 spread × ((soak spread).counts.most_in_attempt ≡ 150) × ((soak spread).said ≡ ends_with (Success false) 10) × ((soak spread).copy ≡ new)
unfolding setup_answer holds
ours_spread = let x = spread_came in (small_meant ours 301 300 spread refl (omega arith) x, spread_most, x.said_is, x.copy_is)

-- ---- lazy collectors

-- a success whose copy has another byte than the area breaks the promise
wrong_copy : (c : Collector) (p : Plan) (w : World) (bytes : ℕ) (ts : List (Turn (controller_source p.page))) (k i n : ℕ) {t : Bool} {copy area : List ℕ} {sent chunks changes refused : ℕ}
    → Came p (final c p (stale p.room) w (lent_of bytes) ts) (ends_with (Success t) n) copy area changes refused sent chunks
    → (get_or copy i 0 ≡ get_or (area ++ zeros (p.room - length area)) i 0 → ⊥) → (newer : Bool) → Demand3 c p (stale p.room) w (lent_of bytes) ts k newer → ⊥
wrong_copy c p w bytes ts k i n {t = t} x differs newer d = by (d.ended (record { ending = Success t; count = n }) x.said_is)
  where
    by : TrueEnding c p (stale p.room) w (lent_of bytes) ts newer (record { ending = Success t; count = n }) (final c p (stale p.room) w (lent_of bytes) ts).checked → ⊥
    by (succeeded_by a q l) = differs (ap (λ (y : List ℕ). get_or y i 0) (sym x.copy_is ∙ q ∙ ap (λ (y : List ℕ). y ++ zeros (p.room - length y)) x.area_is))
    by (room_short a q n l) = absurd (omega arith)
    by (past_reach a q o r) = absurd (omega arith)
    by (gone a q l m o) = absurd (omega arith)
    by (never_there a q l m o) = absurd (omega arith)

-- One that always stops, whatever it says.
pub stops_refuted : (e : Ending) → Meant (stops_with e) undisturbed 0 × Breaks (stops_with e) undisturbed 0
unfolding shows_for
stops_refuted e =
    let x = computed.stopped e in
    (meant (stops_with e) undisturbed 0 (omega arith) x, λ newer d. by newer x (d.ended (record { ending = e; count = 1 }) x.said_is))
  where
    by : (newer : Bool) → Came (scene_plan 2) (run_of (stops_with e) 2 512 undisturbed) (ends_with e 1) (zeros 1024) old 0 0 1 2
        → TrueEnding (stops_with e) (scene_plan 2) (stale 1024) drive (lent_of 512) undisturbed newer (record { ending = e; count = 1 }) (run_of (stops_with e) 2 512 undisturbed).checked → ⊥
    by newer x (succeeded_by a q l) =
        let z : ◌≡◌ {A = ℕ} 0 5 = ap (λ (y : List ℕ). get_or y 0 0) (sym x.copy_is ∙ q ∙ ap (λ (y : List ℕ). y ++ zeros (1024 - length y)) x.area_is) in
        absurd (omega arith)
    by newer x (room_short a q near l) =
        let n = sym (area_long (scene_plan 2) (run_of (stops_with e) 2 512 undisturbed).checked) ∙ ap length x.area_is in
        absurd (omega (arith, l, n))
    by newer x (past_reach a q o r) = clash {t = true} refl o
    by newer x (gone a q l m o) = absurd (omega (arith, o, x.sent_are))
    by newer x (never_there a q l m o) = absurd (omega (arith, m, computed.stopped_live e))

-- One that says without extended data that the area is out of reach, where it is not.
pub stops_old_refuted : Asked (stops_with OutOfReach) (old_plan 2) (stale 1024) old_drive (lent_of 1536) [] 0
    × ((newer : Bool) → Demand3 (stops_with OutOfReach) (old_plan 2) (stale 1024) old_drive (lent_of 1536) [] 0 newer → ⊥)
unfolding setup_answer holds shows_for
stops_old_refuted =
    let x = computed.stopped_old in (
      record { taken = refl; caps = refl; room = refl; typed = old_typed; attempts = omega arith; changes = omega (arith, x.changes_are); spared = x.refused_are },
      λ newer d. by newer x (d.ended (record { ending = OutOfReach; count = 1 }) x.said_is),
    )
  where
    by : (newer : Bool) → Came (old_plan 2) (old_stopped []) (ends_with OutOfReach 1) (zeros 1024) old 0 0 1 1
        → TrueEnding (stops_with OutOfReach) (old_plan 2) (stale 1024) old_drive (lent_of 1536) [] newer (record { ending = OutOfReach; count = 1 }) (old_stopped []).checked → ⊥
    by newer x (succeeded_by a q l) = absurd (omega arith)
    by newer x (room_short a q n l) = absurd (omega arith)
    by newer x (past_reach a q o r) =
        let n = sym (area_long (old_plan 2) (old_stopped []).checked) ∙ ap length x.area_is in
        absurd (omega (arith, r, n))
    by newer x (gone a q l m o) = absurd (omega arith)
    by newer x (never_there a q l m o) = absurd (omega arith)

-- One that never stops.
pub never_stops_refuted : Meant never_stops undisturbed 0 × Breaks never_stops undisturbed 0
never_stops_refuted =
    let x = computed.going_on in
    (meant never_stops undisturbed 0 (omega arith) x, λ newer d. let f = d.ends (omega (arith, x.chunks_are)) in clashes (sym x.said_is ∙ f.said))
  where
    clashes : {w : _} {e : Finish} → ◌≡◌ {A = Next} (Send w) (Ends e) → ⊥
    clashes q = let z : ◌≡◌ {A = ℕ} 0 1 = cc in omega arith

-- One that reads the generation once: its copy is stitched from two captures.
pub reads_once_refuted : Meant reads_once (disturbed 5) 1 × ((run_of reads_once 2 512 (disturbed 5)).copy ≡ mixed) × Breaks reads_once (disturbed 5) 1
reads_once_refuted =
    let x = computed.read_once in
    (meant reads_once (disturbed 5) 1 (omega arith) x, x.copy_is, wrong_copy reads_once (scene_plan 2) drive 512 (disturbed 5) 1 512 3 x (λ z. omega arith))

-- One that reads it again and compares nothing.
pub compares_nothing_refuted : Meant compares_nothing (disturbed 5) 1 × ((run_of compares_nothing 2 512 (disturbed 5)).copy ≡ mixed) × Breaks compares_nothing (disturbed 5) 1
compares_nothing_refuted =
    let x = computed.compared_nothing in
    (meant compares_nothing (disturbed 5) 1 (omega arith) x, x.copy_is, wrong_copy compares_nothing (scene_plan 2) drive 512 (disturbed 5) 1 0 5 x (λ z. omega arith))

-- One that compares generations alone: its copy is of a page that was dropped.
pub compares_generations_refuted : SmallMeant compares_generations 2 1 (drop_last 3) × SmallBreaks compares_generations 2 1 (drop_last 3)
unfolding setup_answer holds
compares_generations_refuted =
    let x = computed.compared_generations in
    (small_meant compares_generations 2 1 (drop_last 3) refl (omega arith) x, wrong_copy compares_generations (small_plan 3 1 2) (small_drive two) 1024 (drop_last 3) 1 0 4 x (λ z. omega arith))

-- One that does its first chunk and fakes the rest.
pub fakes_refuted : Meant fakes_the_rest undisturbed 0 × Breaks fakes_the_rest undisturbed 0
fakes_refuted =
    let x = computed.faked in
    (meant fakes_the_rest undisturbed 0 (omega arith) x, wrong_copy fakes_the_rest (scene_plan 2) drive 512 undisturbed 0 512 5 x (λ z. omega arith))

-- One that invents its count.
pub invents_refuted : Meant invents_its_count undisturbed 0 × Breaks invents_its_count undisturbed 0
invents_refuted =
    let x = computed.invented in
    (meant invents_its_count undisturbed 0 (omega arith) x, λ newer d. omega (arith, d.says (record { ending = Success false; count = 6 }) x.said_is, x.sent_are))

-- ---- premises

-- k attempts for k captures end with 9.
pub attempts_needed : ((run_of ours 1 512 (disturbed 1)).counts.changes ≡ 1) × ((run_of ours 1 512 (disturbed 1)).said ≡ ends_with UsedUp 4)
attempts_needed = let x = computed.used_up in (x.changes_are, x.said_is)

-- And so with drops, which count for k as captures do.
pub attempts_needed_for_drops : ((small_run ours 3 1 1 two (drop_last 3)).counts.changes ≡ 1) × ((small_run ours 3 1 1 two (drop_last 3)).said ≡ ends_with UsedUp 4)
attempts_needed_for_drops = let x = computed.used_up_by_a_drop in (x.changes_are, x.said_is)

-- A buffer that is too short for a command of the run ends it with 12.
pub buffers_needed : ((run_of ours 2 511 []).counts.lent_refusals ≡ 1) × ((run_of ours 2 511 []).said ≡ ends_with BrokeItsWord 1)
buffers_needed = let x = computed.short in (x.refused_are, x.said_is)

-- 256 captures of the same areas in one attempt bring the generation round: with all else that is asked for the run ends well, with a copy of two captures.
pub few_needed : SmallMeant ours 301 256 round × ((soak round).counts.most_in_attempt ≡ 256) × ((soak round).said ≡ ends_with (Success false) 4) × ((soak round).copy ≡ stitched)
    × SmallBreaks ours 301 256 round
unfolding setup_answer holds
few_needed =
    let x = round_came in (
      small_meant ours 301 256 round refl (omega arith) x,
      round_most,
      x.said_is,
      x.copy_is,
      wrong_copy ours (small_plan 3 1 301) (small_drive two) 1024 round 256 0 4 x (λ z. omega arith),
    )
