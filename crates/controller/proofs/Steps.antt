-- What `command`, `capture` and `drop` do, path by path, in variables: each function's proof hands over what its calls ensure.
-- Assumes nothing.
use Rattle.std.specs.Prelude.{ℕ, ◌*◌, ◌≤◌, ◌≡◌, refl, List, [], Result, Err, Bool, true, false, eqb, length, take}
use Rattle.std.proofs.Common.{sym, ap, subst, ◌∙◌, arith, eqb-true, eq-eqb, ne_eqb}
use Rattle.choices.specs.Choice.{pick}
use Rattle.choices.specs.Tests.{clash, by_test, and_left}
use Rattle.copies.specs.Parts.{zeros, put_length, put_whole}
use Rattle.answers.specs.Answers.{success, disagree, refusal_number, class_told}
use Rattle.answers.specs.declared.Refusal.{Refusal}
use Rattle.answers.specs.Refused.{refused_is as no_success}
use Rattle.pages.specs.Pages.{host_page, telemetry_page, block, last_of, per_page}
use Rattle.pages.specs.Laws.{by_page}
use Rattle.lastblocks.specs.Laws.{blocks_greatest}
use Rattle.trimming.specs.Trimming.{top_of, trim_of}
use Rattle.trimming.specs.Trimmed.{trim_blocks}
use Rattle.words.specs.declared.Command.{Command}
use Rattle.words.specs.declared.Words.{Words}
use Rattle.words.specs.Words.{read_of}
use Rattle.header.specs.Header.{header_of}
use Rattle.records.specs.declared.Record.{Record}
use Rattle.records.specs.Records.{agrees_with, host_fields, controller_fields, fields_for, blocks_for}
use Rattle.records.specs.Back.{agreed}
use Rattle.serving.specs.Serving.{served_into, served_fits}
use Rattle.verdicts.specs.Verdicts.{command_answer, capture_answer, class_for}
use Rattle.verdicts.specs.Accepted.{Whole, Accepted, accepted, captures}
use Rattle.captures.specs.Captures.{kept_in, reason_of, controller_taken, cleared_of, dropped_of}
use Rattle.controller.specs.Controller.{World, world, Candidate, store_for, page_of, record_made, store_made, host_captured, controller_captured, outcome, Outcome, Answered, answered_by, lent_by, acknowledges, before, sent_of, afterwards, answered, command_of, capture_answered, capture_of, drop_of}

-- ---- what the words say of create

pub create_host : (extended : Bool) (words : Words) (c : Command) → c ≡ read_of extended words → c.create ≡ true → c.page ≡ host_page
create_host extended words c e h =
    let p : (read_of extended words).create ≡ true = sym (ap (λ (d : Command). d.create) e) ∙ h in
    ap (λ (d : Command). d.page) e ∙ eqb-true _ host_page (and_left _ _ p)

-- ---- the transfer

pub sent_is : (w : World) (c : Command) (page : ℕ) (buf b : List ℕ) → c.page ≡ page
    → block * blocks_for page w.own ≤ length (store_for page w)
    → c.bytes ≤ length buf
    → b ≡ served_into (header_of (fields_for page w.own)) (store_for page w) (blocks_for page w.own) c.offset c.bytes buf
    → b ≡ sent_of w c buf
unfolding sent_of page_of
sent_is w c page buf b p f r e =
    e ∙ served_fits (header_of (fields_for page w.own)) (store_for page w) (blocks_for page w.own) c.offset c.bytes buf f r
    ∙ rw p

-- ---- what the code gives, as an answer with its class and the record

-- a refusal is no success
pub refused_number : (e : Refusal) → refusal_number e ≡ success → ⊥
refused_number e h = clash (eq-eqb _ success h) (no_success e)

-- a refusal that is given: its number, its class and the record as lent
pub refusal_given : (lent : Record) (e : Refusal) {r : Result Record Refusal} {class : ℕ} → r ≡ Err e → class_told e ≡ class
    → answered_by lent r ≡ record { answer = refusal_number e; class = class; own = lent }
refusal_given lent e g f = rw (g, f)

-- ---- the paths of a command

pub command_is : (w : World) (candidate : Candidate) (words : Words) (buf : List ℕ) {c : Command} {x : ℕ} {o : Outcome}
    → c ≡ read_of w.own.caps.extended words → x ≡ command_answer w.own c candidate.last (lent_by w candidate buf) → o ≡ answered w candidate c buf x
    → o ≡ command_of w candidate words buf
unfolding command_of
command_is w candidate words buf e f g = g ∙ rw (f, e)

-- what its answer of 0 tells
pub command_accepted : (w : World) (candidate : Candidate) (buf : List ℕ) (c : Command) (x : ℕ)
    → x ≡ command_answer w.own c candidate.last (lent_by w candidate buf) → x ≡ success → Accepted w.own c candidate.last (lent_by w candidate buf)
command_accepted w candidate buf c x e z = accepted w.own c candidate.last (lent_by w candidate buf) (sym e ∙ z)

pub refused_is : (w : World) (candidate : Candidate) (c : Command) (buf : List ℕ) (x : ℕ) (y : Answered) → (x ≡ success → ⊥)
    → y ≡ record { answer = x; class = class_for x c.page; own = w.own }
    → outcome y.answer y.class (world y.own w.host w.controller) buf ≡ answered w candidate c buf x
unfolding answered
refused_is w candidate c buf x y n e = rw (ne_eqb x success n, e)

-- what is left by success
done_is : (w : World) (candidate : Candidate) (c : Command) (buf b : List ℕ) (x : ℕ) (next : World) (y : Answered)
    → x ≡ success → y ≡ record { answer = x; class = 0; own = next.own }
    → next ≡ afterwards (before w candidate c) c → b ≡ sent_of (before w candidate c) c buf
    → outcome y.answer y.class (world y.own next.host next.controller) b ≡ answered w candidate c buf x
unfolding answered
done_is w candidate c buf b x next y z e f g = rw (e, z, g, ← f)

-- on 07h nothing is cleared
pub host_stays : (w : World) (c : Command) → c.page ≡ host_page → afterwards w c ≡ w
unfolding afterwards
host_stays w c p = rw p

pub captured : (w : World) (candidate : Candidate) (c : Command) → c.create ≡ true → before w candidate c ≡ host_captured w candidate c.mcda
unfolding before
captured w candidate c p = rw p

pub no_capture : (w : World) (candidate : Candidate) (c : Command) → c.create ≡ false → before w candidate c ≡ w
unfolding before
no_capture w candidate c p = rw p

-- a page whose blocks lie in its store
abbrev pub Fits : ℕ → World → Type 0
Fits page w = block * blocks_for page w.own ≤ length (store_for page w)

-- the host page's after a capture
pub captured_fits : (w : World) (candidate : Candidate) (mcda : ℕ)
    → Whole (last_of (top_of w.own.caps mcda) candidate.last) candidate.last (length candidate.bytes) (length candidate.reason) (length w.host)
    → Fits host_page (host_captured w candidate mcda)
unfolding host_captured fields_for host_fields
captured_fits w candidate mcda h =
    let e = trim_blocks w.own.caps mcda candidate.last in
    let l = put_length w.host 0 (take (block * last_of (top_of w.own.caps mcda) candidate.last) candidate.bytes) in
    let r = h.room in
    omega arith

-- and either page's of an agreeing record
pub agreed_fits : (w : World) → agrees_with w.own (length w.host) (length w.controller) ≡ true → (page : ℕ) → telemetry_page page ≡ true → Fits page w
unfolding fields_for host_fields controller_fields
agreed_fits w g page p =
    let k = agreed w.own (length w.host) (length w.controller) g in
    let host = blocks_greatest w.own.caps w.own.host.last in
    let controller = blocks_greatest w.own.caps w.own.controller.last in
    let a = k.host.room in
    let b = k.controller.fits.room in
    by_page (λ (n : ℕ). Fits n w) page p (omega arith) (omega arith)

reason_whole : (reason rs : List ℕ) → length reason ≡ 128 → rs ≡ reason_of reason → rs ≡ reason
reason_whole reason rs l e = e ∙ put_whole (zeros 128) reason (sym l)

-- what a create leaves is the world before the transfer
made_is : (w : World) (candidate : Candidate) (c : Command) (buf : List ℕ) → Accepted w.own c candidate.last (lent_by w candidate buf)
    → world (record_made w.own c candidate.last candidate.reason) (store_made w.own c candidate.last candidate.bytes w.host) w.controller
    ≡ before w candidate c
unfolding before host_captured
made_is w candidate c buf g =
    by_test c.create
    (λ t. rw (t, reason_whole candidate.reason _ (g.candidate t).long refl))
    (λ t. rw t)

-- whose page lies in its store
made_fits : (w : World) (candidate : Candidate) (c : Command) (buf : List ℕ) → Accepted w.own c candidate.last (lent_by w candidate buf)
    → (c.create ≡ true → c.page ≡ host_page) → Fits c.page (before w candidate c)
made_fits w candidate c buf g host =
    by_test c.create
    (λ t. rw (captured w candidate c t, host t) (captured_fits w candidate c.mcda (g.candidate t)))
    (λ t. rw (no_capture w candidate c t) (agreed_fits w g.agrees c.page g.served))

-- the branches of an acknowledgement
pub clears : (r : Record) (c : Command) {x : Record} → acknowledges c ≡ true → x ≡ cleared_of r → x ≡ pick (acknowledges c) (cleared_of r) r
clears r c t e = rw t e

pub keeps : (r : Record) (c : Command) → acknowledges c ≡ false → r ≡ pick (acknowledges c) (cleared_of r) r
keeps r c t = rw t

-- judged, made, sent and acknowledged: what a success leaves
pub served_is : (w : World) (candidate : Candidate) (c : Command) (buf : List ℕ) (x : ℕ) (y : Answered) {next after : Record} {h b : List ℕ}
    → x ≡ success → Accepted w.own c candidate.last (lent_by w candidate buf) → (c.create ≡ true → c.page ≡ host_page)
    → (next ≡ record_made w.own c candidate.last candidate.reason) × (h ≡ store_made w.own c candidate.last candidate.bytes w.host)
    → b ≡ served_into (header_of (fields_for c.page next)) (per_page c.page h w.controller) (blocks_for c.page next) c.offset c.bytes buf
    → after ≡ pick (acknowledges c) (cleared_of next) next
    → y ≡ record { answer = x; class = 0; own = after }
    → outcome y.answer y.class (world y.own h w.controller) b ≡ answered w candidate c buf x
unfolding afterwards
served_is w candidate c buf x y {next = next} {after = after} {h = h} {b = b} z g host em eb ea ey =
    let v : World = world next h w.controller in
    let ev : v ≡ before w candidate c = rw (em.0, em.1) (made_is w candidate c buf g) in
    let fits : Fits c.page v = subst (λ (u : World). Fits c.page u) (sym ev) (made_fits w candidate c buf g host) in
    let ew : world after h w.controller ≡ afterwards v c =
    rw ea (by_test (acknowledges c) (λ t. rw t) (λ t. rw t)) in
    done_is w candidate c buf b x (world after h w.controller) y z ey
    (ew ∙ ap (λ (u : World). afterwards u c) ev)
    (sent_is v c c.page buf b refl fits g.room eb ∙ ap (λ (u : World). sent_of u c buf) ev)

-- ---- the paths of a capture on 08h

pub capture_refused_is : (w : World) (candidate : Candidate) (x : ℕ) (y : Answered) → x ≡ capture_answer w.own candidate.last (lent_by w candidate [])
    → (x ≡ success → ⊥) → y ≡ record { answer = x; class = 0; own = w.own }
    → outcome y.answer y.class (world y.own w.host w.controller) [] ≡ capture_of w candidate
unfolding capture_of capture_answered
capture_refused_is w candidate x y e n f = rw (f, ← e, ne_eqb x success n)

pub captured_is : (w : World) (candidate : Candidate) (x : ℕ) (y : Answered) {k : List ℕ} {next : Record}
    → x ≡ capture_answer w.own candidate.last (lent_by w candidate []) → x ≡ success
    → (next ≡ controller_taken w.own (trim_of w.own.caps 0 candidate.last) (reason_of candidate.reason))
    × (k ≡ kept_in w.controller candidate.bytes (last_of (top_of w.own.caps 0) candidate.last))
    → y ≡ record { answer = x; class = 0; own = next }
    → outcome y.answer y.class (world y.own w.host k) [] ≡ capture_of w candidate
unfolding capture_of capture_answered controller_captured
captured_is w candidate x y e z en ey =
    let g = captures w.own candidate.last (lent_by w candidate []) (sym e ∙ z) in
    let es = reason_whole candidate.reason _ g.candidate.long refl in
    rw (ey, en.0, en.1, es, ← e, z)

-- the same as what is left, by whether it is taken
pub capture_taken : (w : World) (candidate : Candidate) → eqb (capture_answer w.own candidate.last (lent_by w candidate [])) success ≡ true
    → capture_of w candidate
    ≡ outcome success 0
    (world (controller_taken w.own (trim_of w.own.caps 0 candidate.last) (reason_of candidate.reason)) w.host
    (kept_in w.controller candidate.bytes (last_of (top_of w.own.caps 0) candidate.last)))
    []
capture_taken w candidate t =
    let next = controller_taken w.own (trim_of w.own.caps 0 candidate.last) (reason_of candidate.reason) in
    sym (captured_is w candidate success (record { answer = success; class = 0; own = next }) (sym (eqb-true _ success t)) refl (refl, refl) refl)

pub capture_refused : (w : World) (candidate : Candidate) → eqb (capture_answer w.own candidate.last (lent_by w candidate [])) success ≡ false
    → capture_of w candidate ≡ outcome (capture_answer w.own candidate.last (lent_by w candidate [])) 0 w []
capture_refused w candidate t =
    let x = capture_answer w.own candidate.last (lent_by w candidate []) in
    sym (capture_refused_is w candidate x (record { answer = x; class = 0; own = w.own }) refl (λ z. clash (eq-eqb _ success z) t) refl)

-- ---- the paths of a drop

module _ (w : World) (y : Answered) {t : Bool} (e : t ≡ agrees_with w.own (length w.host) (length w.controller)) where
  pub dropped_is : {next : Record} → t ≡ true → next ≡ dropped_of w.own → y ≡ record { answer = success; class = 0; own = next }
      → outcome y.answer y.class (world y.own w.host w.controller) [] ≡ drop_of w
  unfolding drop_of
  dropped_is z en ey = rw (ey, en, ← e, z)

  pub drop_refused_is : t ≡ false → y ≡ record { answer = disagree; class = 0; own = w.own }
      → outcome y.answer y.class (world y.own w.host w.controller) [] ≡ drop_of w
  unfolding drop_of
  drop_refused_is z ey = rw (ey, ← e, z)
