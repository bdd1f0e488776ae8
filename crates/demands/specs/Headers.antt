-- Demand 2 of any command: whoever reads a page's first 512 bytes, with whatever words, gets a header that is checked to the record's fields, and planned
-- to them where the plan is not refused; and a page has its size.
-- Assumes nothing.
use Prim.Native.Nat.{ℕ, ◌*◌, ◌≤◌}
use Rattle.std.specs.Prelude.{◌≡◌, refl, Bool, true, length, None}
use Rattle.std.proofs.Common.{sym, ◌∙◌, arith, length-take, length-append, take-take, take_at}
use Rattle.std.proofs.Math.Path.{ap, subst}
use mathlib.Core.List.{List, ◌++◌, append_assoc}
use Rattle.std.proofs.Math.ListN.{take, drop}
use Rattle.std.proofs.lemmas.List.{take-append-le}
use Rattle.choices.specs.Tests.{by_test, clash}
use Rattle.copies.specs.Parts.{zeros}
use Rattle.answers.specs.Answers.{success, bad_header}
use Rattle.pages.specs.declared.Caps.{Caps}
use Rattle.pages.specs.Pages.{block, telemetry_page, size_of}
use Rattle.words.specs.declared.Command.{Command}
use Rattle.words.specs.declared.Words.{Words}
use Rattle.header.specs.Header.{header_of, faultless, Checked, check_of}
use Rattle.completions.specs.Plan.{Planned, plan_of}
use Rattle.completions.specs.Planned.{planned_good, planned_bad_only}
use Rattle.records.specs.Records.{fields_for, blocks_for, size_for}
use Rattle.records.specs.Back.{Typed, record_reads_back}
use Rattle.serving.specs.Serving.{page_bytes, window_of, window_length}
use Rattle.verdicts.specs.Accepted.{Accepted, accepted}
use Rattle.controller.specs.Controller.{World, Candidate, store_for, page_of, host_captured, before, sent_of, Outcome, lent_by, command_of}
use Rattle.controller.proofs.Steps.{captured, no_capture, agreed_fits}
use Rattle.controller.specs.Asked.{Agrees, asked}
use Rattle.controller.proofs.Laws.{command_answer_lem, command_done, create_agrees, create_typed}
use Rattle.demand3.specs.Answered.{header_long}

-- the front of a window from 0 on is the header
front : (n : ℕ) (header store buf : List ℕ) (blocks : ℕ) → length header ≡ block → block ≤ n
    → take block (window_of 0 n (page_bytes header store blocks) ++ buf) ≡ header
unfolding window_of page_bytes
front n header store buf blocks l h =
    take-append-le block (window_of 0 n (page_bytes header store blocks)) buf (omega (arith, window_length 0 n (page_bytes header store blocks)))
    ∙ take-take block n (page_bytes header store blocks ++ zeros n) h
    ∙ ap (λ (x : List ℕ). take block x) (append_assoc header (take (block * blocks) store) (zeros n))
    ∙ take_at header (take (block * blocks) store ++ zeros n) block l

module _ (w : World) (candidate : Candidate) (words : Words) (buf : List ℕ) (t : Typed w.own) (a : (command_of w candidate words buf).answer ≡ success) where
  abbrev c : Command
  c = asked w words

  -- the world that is served: after the command's own capture, if it makes one
  abbrev pub served : World
  served = before w candidate c

  yes : Accepted w.own c candidate.last (lent_by w candidate buf)
  yes = accepted w.own c candidate.last (lent_by w candidate buf) (sym (command_answer_lem w candidate words buf) ∙ a)

  -- it agrees and is typed as before
  kept : Agrees served × Typed served.own × (served.own.caps ≡ w.own.caps)
  unfolding host_captured
  kept =
      by_test c.create
      (λ q. subst (λ (v : World). Agrees v × Typed v.own × (v.own.caps ≡ w.own.caps)) (sym (captured w candidate c q))
      (create_agrees w candidate c.mcda yes.agrees (yes.candidate q), create_typed w candidate c.mcda yes.agrees t (yes.candidate q), refl))
      (λ q. subst (λ (v : World). Agrees v × Typed v.own × (v.own.caps ≡ w.own.caps)) (sym (no_capture w candidate c q)) (yes.agrees, t, refl))

  -- A successful command at offset 0 of 512 bytes or more brings the header of the page, checked to the record's fields.
  pub header_brought : c.offset ≡ 0 → block ≤ c.bytes
      → check_of c.page w.own.caps.da4s (take block (command_of w candidate words buf).buf) ≡ record { fault = None; fields = fields_for c.page served.own }
  unfolding sent_of page_of
  header_brought o n =
      let h : List ℕ = header_of (fields_for c.page served.own) in
      let long = header_long c.page served kept.1.sized in
      let sent : (command_of w candidate words buf).buf ≡ sent_of served c buf = ap (λ (x : Outcome). x.buf) (command_done w candidate words buf (sym (command_answer_lem w candidate words buf) ∙ a)) in
      let it : take block (command_of w candidate words buf).buf ≡ h =
      ap (λ (x : List ℕ). take block x) sent
      ∙ ap (λ (i : ℕ). take block (window_of i c.bytes (page_of c.page served) ++ drop c.bytes buf)) o
      ∙ front c.bytes h (store_for c.page served) (drop c.bytes buf) (blocks_for c.page served.own) long n in
      ap (λ (x : List ℕ). check_of c.page w.own.caps.da4s x) it
      ∙ ap (λ (x : Caps). check_of c.page x.da4s h) (sym kept.2)
      ∙ record_reads_back served.own (length served.host) (length served.controller) c.page kept.1.sized kept.0 yes.served

  -- And a plan from it, under the controller's DA4S, is never refused as of a bad header, and has those fields where it is not refused.
  pub header_not_bad : (area : ℕ) (caps : Caps) (chunk room : ℕ) → caps.da4s ≡ w.own.caps.da4s → c.offset ≡ 0 → block ≤ c.bytes
      → (plan_of c.page area caps chunk room (take block (command_of w candidate words buf).buf)).answer ≡ bad_header → ⊥
  header_not_bad area caps chunk room same o n e =
      let h : List ℕ = take block (command_of w candidate words buf).buf in
      let good : faultless (check_of c.page caps.da4s h).fault ≡ true =
      ap (λ (t : Bool). faultless (check_of c.page t h).fault) same ∙ ap (λ (x : Checked). faultless x.fault) (header_brought o n) in
      clash good (planned_bad_only c.page area caps chunk room h e)

  pub header_planned : (area : ℕ) (caps : Caps) (chunk room : ℕ) → caps.da4s ≡ w.own.caps.da4s → c.offset ≡ 0 → block ≤ c.bytes
      → (plan_of c.page area caps chunk room (take block (command_of w candidate words buf).buf)).answer ≡ success
      → (plan_of c.page area caps chunk room (take block (command_of w candidate words buf).buf)).fields ≡ fields_for c.page served.own
  header_planned area caps chunk room same o n e =
      let h : List ℕ = take block (command_of w candidate words buf).buf in
      ap (λ (x : Planned). x.fields) (planned_good c.page area caps chunk room h e)
      ∙ ap (λ (t : Bool). (check_of c.page t h).fields) same
      ∙ ap (λ (x : Checked). x.fields) (header_brought o n)

-- A page is as long as its size says.
pub page_length : (page : ℕ) (w : World) → Typed w.own → Agrees w → telemetry_page page ≡ true → length (page_of page w) ≡ size_for page w.own
unfolding page_of page_bytes size_of
page_length page w t g p =
    let l = header_long page w t.sized in
    let f = agreed_fits w g page p in
    simp (length-append, length-take) (omega (arith, l, f))
