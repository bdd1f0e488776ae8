-- What an agreeing controller answers to words that the builder made.
-- Assumes nothing.
use Rattle.std.specs.Prelude.{ℕ, ◌+◌, ◌-◌, ◌*◌, ◌%◌, ◌≤◌, ◌≡◌, refl, List, ◌++◌, Bool, true, false, not, ◌&&◌, length, take, drop, leb, eqb}
use Rattle.std.proofs.Common.{sym, ap, ◌∙◌, arith, eq-eqb, leb-true, leb-false, le-leb}
use Rattle.std.proofs.lemmas.Bool.{lt-leb}
use Rattle.choices.specs.Choice.{pick}
use Rattle.choices.specs.Tests.{holds, by_test, each}
use Rattle.answers.specs.Answers.{success, invalid_field}
use Rattle.pages.specs.declared.Caps.{Caps}
use Rattle.pages.specs.Pages.{host_page, controller_page, telemetry_page, block, last_of}
use Rattle.trimming.specs.Trimming.{top_of}
use Rattle.words.specs.declared.Command.{Command}
use Rattle.words.specs.declared.Words.{Words}
use Rattle.words.specs.Words.{taken, built_of}
use Rattle.words.specs.Back.{meant, built_back}
use Rattle.header.specs.Header.{header_of}
use Rattle.header.specs.Back.{header_length}
use Rattle.records.specs.Records.{host_fields, controller_fields, fields_for, blocks_for, size_for}
use Rattle.records.specs.Back.{Sized, Typed}
use Rattle.serving.specs.Serving.{window_of, window_header}
use Rattle.serving.specs.Runs.{window_area}
use Rattle.verdicts.specs.declared.Lent.{Lent}
use Rattle.verdicts.specs.Verdicts.{candidate_ok, field_bad, last_after, command_answer}
use Rattle.verdicts.specs.Accepted.{Fair, accepts, beyond_refused, candidate_whole}
use Rattle.controller.specs.Controller.{World, Candidate, store_for, page_of, host_captured, outcome, Outcome, lent_by, before, sent_of, afterwards, command_of}
use Rattle.controller.proofs.Steps.{captured, agreed_fits}
use Rattle.controller.specs.Asked.{Agrees, asked, verdict}
use Rattle.controller.proofs.Laws.{create_typed, command_done, command_refused}

-- what a collection asks of a controller at setup, and what its own commands are lent
pub record Ready (w : World) (bytes : ℕ) (buf : List ℕ) : Type 0 where
  pub agrees : Agrees w
  pub telemetry : w.own.caps.telemetry ≡ true
  pub room : bytes ≤ length buf

-- a command that a controller without extended data takes: it has no offset, and at most 32 blocks
abbrev pub Allowed : Bool → ℕ → ℕ → Type 0
Allowed extended offset blocks = extended ≡ false → (offset ≡ 0) × (blocks ≤ 32)

-- a header is one
pub header_allowed : (extended : Bool) → Allowed extended 0 1
header_allowed extended o = (refl, omega arith)

-- the words of a command
abbrev pub sends : ℕ → Bool → ℕ → Bool → ℕ → ℕ → Words
sends page create mcda rae offset blocks = (built_of page create mcda rae offset blocks).words

-- which are read to what they mean
pub asked_is : (w : World) (page : ℕ) (create : Bool) (mcda : ℕ) (rae : Bool) (offset blocks : ℕ) → Allowed w.own.caps.extended offset blocks
    → taken page create mcda offset blocks ≡ true
    → asked w (sends page create mcda rae offset blocks) ≡ meant page create mcda rae offset blocks
asked_is w page create mcda rae offset blocks a t = (built_back w.own.caps.extended page create mcda rae offset blocks t (λ o. (a o).1)).1

-- and have no invalid field
pub valid : (caps : Caps) (page : ℕ) (create : Bool) (mcda : ℕ) (rae : Bool) (offset blocks : ℕ) → Allowed caps.extended offset blocks → mcda ≤ 4
    → field_bad caps (meant page create mcda rae offset blocks) ≡ false
unfolding field_bad
valid caps page create mcda rae offset blocks a m =
    let whole : (block * blocks) % block ≡ 0 = omega arith in
    let placed : (block * offset) % block ≡ 0 = omega arith in
    rw (eq-eqb _ 0 whole, from_none caps.extended (block * offset) (λ o. omega (arith, (a o).0)), eq-eqb _ 0 placed, lt-leb 5 mcda (omega arith)) (none create caps.mcdas)
  where
    from_none : (x : Bool) (n : ℕ) → (x ≡ false → n ≡ 0) → not x && not (eqb n 0) ≡ false
    from_none true n h = refl
    from_none false n h = ap not (eq-eqb n 0 (h refl))

    none : (s t : Bool) → s && t && false ≡ false
    none true true = refl
    none true false = refl
    none false t = refl

page_taken : (page : ℕ) (create : Bool) (mcda offset blocks : ℕ) → taken page create mcda offset blocks ≡ true → telemetry_page page ≡ true
unfolding taken
page_taken page create mcda offset blocks t = each _ t 0

mcda_taken : (page : ℕ) (create : Bool) (mcda offset blocks : ℕ) → taken page create mcda offset blocks ≡ true → mcda ≤ 4
unfolding taken
mcda_taken page create mcda offset blocks t = leb-true _ _ (each _ t 2)

-- without create the last blocks are those that the page's header shows
pub last_read : (w : World) (page : ℕ) (rae : Bool) (offset blocks : ℕ) (a : List ℕ)
    → last_after w.own (meant page false 0 rae offset blocks) a ≡ (fields_for page w.own).last
unfolding last_after fields_for host_fields controller_fields
last_read w page rae offset blocks a = by_test (eqb page host_page) (λ e. rw e) (λ e. rw e)

-- ---- a read

-- what a read of blocks from an offset leaves where it is served
abbrev pub read_done : World → ℕ → Bool → ℕ → ℕ → List ℕ → Outcome
read_done w page rae offset blocks buf =
    outcome success 0 (afterwards w (meant page false 0 rae offset blocks))
    (window_of (block * offset) (block * blocks) (page_of page w) ++ drop (block * blocks) buf)

-- Served where the offset is within the page's size, refused with 1 where it is not.
pub own_read : (w : World) (candidate : Candidate) (page : ℕ) (rae : Bool) (offset blocks : ℕ) (buf : List ℕ)
    → Ready w (block * blocks) buf → Allowed w.own.caps.extended offset blocks → taken page false 0 offset blocks ≡ true
    → command_of w candidate (sends page false 0 rae offset blocks) buf
    ≡ pick (leb (block * offset) (size_for page w.own)) (read_done w page rae offset blocks buf)
    (outcome invalid_field 0 w buf)
unfolding sent_of before
own_read w candidate page rae offset blocks buf k a t =
    by_test (leb (block * offset) (size_for page w.own))
    (λ h.
    command_done w candidate words buf (answer ∙ accepts w.own c candidate.last lent fair (rw (last_read w page rae offset blocks candidate.last) (leb-true _ _ h)))
    ∙ ap (λ (d : Command). outcome success 0 (afterwards (before w candidate d) d) (sent_of (before w candidate d) d buf)) e
    ∙ rw h)
    (λ h.
    let v = answer ∙ beyond_refused w.own c candidate.last lent fair (rw (last_read w page rae offset blocks candidate.last) (leb-false _ _ h)) in
    command_refused w candidate words buf (λ z. absurd (omega (arith, sym v ∙ z)))
    ∙ rw (v, h))
  where
    words : Words
    words = sends page false 0 rae offset blocks

    c : Command
    c = meant page false 0 rae offset blocks

    lent : Lent
    lent = lent_by w candidate buf

    e : asked w words ≡ c
    e = asked_is w page false 0 rae offset blocks a t

    answer : verdict w candidate words buf ≡ command_answer w.own c candidate.last lent
    answer = ap (λ (d : Command). command_answer w.own d candidate.last lent) e

    fair : Fair w.own c candidate.last lent
    fair = record {
      agrees = k.agrees;
      served = page_taken page false 0 offset blocks t;
      telemetry = k.telemetry;
      valid = valid w.own.caps page false 0 rae offset blocks a (omega arith);
      candidate = refl;
      room = k.room;
    }

-- ---- the header

-- with RAE 1, and on 07h, nothing is cleared
pub retained : (w : World) (page : ℕ) (create : Bool) (mcda offset blocks : ℕ) → afterwards w (meant page create mcda true offset blocks) ≡ w
unfolding afterwards
retained w page create mcda offset blocks = by_test (eqb page controller_page) (λ e. rw e) (λ e. rw e)

pub header_long : (page : ℕ) (w : World) → Sized w.own → length (header_of (fields_for page w.own)) ≡ block
unfolding fields_for host_fields controller_fields
header_long page w z =
    header_length (fields_for page w.own) (by_test (eqb page host_page) (λ e. rw e z.host_reason) (λ e. rw e z.controller_reason))

pub header_taken : (page : ℕ) → telemetry_page page ≡ true → taken page false 0 0 1 ≡ true
unfolding taken holds
header_taken page p = rw p

window_of_header : (w : World) (page : ℕ) → length (header_of (fields_for page w.own)) ≡ block → window_of 0 block (page_of page w) ≡ header_of (fields_for page w.own)
unfolding page_of
window_of_header w page e = window_header (header_of (fields_for page w.own)) _ _ e

-- A header command is always served, with the page's header.
pub own_header : (w : World) (candidate : Candidate) (page : ℕ) (rae : Bool) (buf : List ℕ) → Ready w block buf → Typed w.own → telemetry_page page ≡ true
    → command_of w candidate (sends page false 0 rae 0 1) buf
    ≡ outcome success 0 (afterwards w (meant page false 0 rae 0 1)) (header_of (fields_for page w.own) ++ drop block buf)
own_header w candidate page rae buf k z p =
    own_read w candidate page rae 0 1 buf k (header_allowed w.own.caps.extended) (header_taken page p)
    ∙ rw (le-leb 0 (size_for page w.own) (omega arith))
    (ap (λ (l : List ℕ). outcome success 0 (afterwards w (meant page false 0 rae 0 1)) (l ++ drop block buf))
    (window_of_header w page (header_long page w z.sized)))

-- ---- the first header with create

pub create_taken : (mcda : ℕ) → mcda ≤ 4 → taken host_page true mcda 0 1 ≡ true
unfolding taken holds
create_taken mcda h = rw (le-leb mcda 4 h)

-- With a candidate that is not broken it captures and is served with the new page's header.
pub own_create : (w : World) (candidate : Candidate) (mcda : ℕ) (buf : List ℕ) → Ready w block buf → Typed w.own → mcda ≤ 4
    → candidate_ok (last_of (top_of w.own.caps mcda) candidate.last) candidate.last (length candidate.bytes) (length candidate.reason) (length w.host) ≡ true
    → command_of w candidate (sends host_page true mcda true 0 1) buf
    ≡ outcome success 0 (host_captured w candidate mcda) (header_of (fields_for host_page (host_captured w candidate mcda).own) ++ drop block buf)
unfolding sent_of
own_create w candidate mcda buf k y m f =
    command_done w candidate words buf (ap (λ (d : Command). command_answer w.own d candidate.last (lent_by w candidate buf)) e ∙ accepts w.own c candidate.last (lent_by w candidate buf) fair (omega arith))
    ∙ ap (λ (d : Command). outcome success 0 (afterwards (before w candidate d) d) (sent_of (before w candidate d) d buf)) e
    ∙ ap (λ (v : World). outcome success 0 (afterwards v c) (sent_of v c buf)) (captured w candidate c refl)
    ∙ ap (λ (v : World). outcome success 0 v (sent_of (host_captured w candidate mcda) c buf)) (retained (host_captured w candidate mcda) host_page true mcda 0 1)
    ∙ ap (λ (l : List ℕ). outcome success 0 (host_captured w candidate mcda) (l ++ drop block buf)) (window_of_header (host_captured w candidate mcda) host_page long)
  where
    words : Words
    words = sends host_page true mcda true 0 1

    c : Command
    c = meant host_page true mcda true 0 1

    e : asked w words ≡ c
    e = asked_is w host_page true mcda true 0 1 (header_allowed w.own.caps.extended) (create_taken mcda m)

    fair : Fair w.own c candidate.last (lent_by w candidate buf)
    fair = record {
      agrees = k.agrees;
      served = refl;
      telemetry = k.telemetry;
      valid = valid w.own.caps host_page true mcda true 0 1 (header_allowed w.own.caps.extended) m;
      candidate = ap not f;
      room = k.room;
    }

    long : length (header_of (fields_for host_page (host_captured w candidate mcda).own)) ≡ block
    long = header_long host_page (host_captured w candidate mcda) (create_typed w candidate mcda k.agrees y (candidate_whole _ _ _ _ _ f)).sized

-- ---- the blocks of an area

-- Blocks that lie within the page are the store's.
pub own_blocks : (w : World) (page at n : ℕ) → Typed w.own → Agrees w → telemetry_page page ≡ true → 1 ≤ at
    → at + n ≤ blocks_for page w.own + 1
    → window_of (block * at) (block * n) (page_of page w) ≡ take (block * n) (drop (block * (at - 1)) (store_for page w))
unfolding page_of
own_blocks w page at n t g p one end =
    window_area (header_of (fields_for page w.own)) (store_for page w) (blocks_for page w.own) at n
    (header_long page w t.sized) (agreed_fits w g page p) one end
