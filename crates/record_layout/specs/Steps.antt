-- What the code's calls come to, one after another.
-- Assumes nothing.
use Rattle.std.specs.Prelude.{ℕ, ◌+◌, ◌≡◌, refl, List, [], ◌∷◌, ◌++◌, length, get_or, drop, eqb}
use Rattle.std.proofs.Common.{ap, ◌∙◌, arith, length-append, length-drop, take_at}
use Rattle.choices.specs.Choice.{one}
use Rattle.copies.specs.Parts.{zeros, put_at, put_end, put_next}
use Rattle.littleendian.specs.Numbers.{bytes_of, value_at}
use Rattle.arrays.specs.Arrays.{fours_of, fours_at, reason_at}
use Rattle.littleendian.specs.Puts.{then}
use Rattle.pages.specs.declared.Caps.{Caps}
use Rattle.records.specs.declared.HostPage.{HostPage}
use Rattle.records.specs.declared.ControllerPage.{ControllerPage}
use Rattle.records.specs.declared.Record.{Record}
use Rattle.shared_layouts.specs.Layouts.{caps_byte, caps_of}
use Rattle.record_layout.specs.Layout.{record_marks, record_front, record_bytes, host_at, controller_at, record_at}

-- ---- writing

-- the first eight bytes
pub marks_are : (r : Record) {caps notice : ℕ} → caps ≡ caps_byte r.caps → notice ≡ one r.controller.notice
    → caps ∷ r.identity.hostscope ∷ r.identity.controllerscope ∷ r.host.generation ∷ r.controller.generation ∷ r.controller.tcda ∷ notice ∷ 0 ∷ []
    ≡ record_marks r
marks_are r e f = rw (e, f)

record_front_lem : (r : Record) {m o p q s : List ℕ}
    → m ≡ record_marks r → o ≡ put_at (zeros 300) 0 m → p ≡ put_at o 8 (bytes_of 4 r.identity.oui)
    → q ≡ put_at p 12 (fours_of r.host.last) → s ≡ put_at q 28 (fours_of r.controller.last)
    → s ≡ record_front (record_marks r) r.identity.oui r.host.last r.controller.last ++ zeros 256
unfolding put_at
record_front_lem r em e1 e2 e3 e4 =
    then 28 (fours_of r.controller.last)
    (then 12 (fours_of r.host.last)
    (then 8 (bytes_of 4 r.identity.oui) (e1 ∙ ap (λ (l : List ℕ). put_at (zeros 300) 0 l) em) e2)
    e3)
    e4

-- two reasons behind a front of 44 bytes
reasons_are : (f h k : List ℕ) {t u : List ℕ} → length f ≡ 44 → length h ≡ 128 → length k ≡ 128
    → t ≡ put_at (f ++ zeros 256) 44 h → u ≡ put_at t 172 k → u ≡ f ++ h ++ k
reasons_are f h k lf lh lk e1 e2 =
    let rest : List ℕ = drop (44 + length h) (zeros 300) in
    e2
    ∙ ap (λ (x : List ℕ). put_at x 172 k) (e1 ∙ put_next f (zeros 300) h 44 lf (omega arith))
    ∙ put_end ((f ++ h) ++ rest) k 172 (simp (length-append, length-drop) (omega arith))
    ∙ ap (λ (x : List ℕ). x ++ k) (take_at (f ++ h) rest 172 (simp length-append (omega arith)))

-- a record
pub record_is : (r : Record) {m o p q s t u : List ℕ} → length r.host.reason ≡ 128 → length r.controller.reason ≡ 128
    → m ≡ record_marks r → o ≡ put_at (zeros 300) 0 m → p ≡ put_at o 8 (bytes_of 4 r.identity.oui)
    → q ≡ put_at p 12 (fours_of r.host.last) → s ≡ put_at q 28 (fours_of r.controller.last)
    → t ≡ put_at s 44 r.host.reason → u ≡ put_at t 172 r.controller.reason
    → u ≡ record_bytes r
unfolding record_bytes
record_is r lh lk em e1 e2 e3 e4 e5 e6 =
    reasons_are (record_front (record_marks r) r.identity.oui r.host.last r.controller.last) r.host.reason r.controller.reason refl lh lk
    (e5 ∙ ap (λ (x : List ℕ). put_at x 44 r.host.reason) (record_front_lem r em e1 e2 e3 e4))
    e6

-- ---- reading

pub host_is : (b : List ℕ) {last reason : List ℕ} → last ≡ fours_at 12 b → reason ≡ reason_at 44 b
    → record { last = last; generation = get_or b 3 0; reason = reason } ≡ host_at b
host_is b l r = rw (l, r)

pub controller_is : (b : List ℕ) {last reason : List ℕ} → last ≡ fours_at 28 b → reason ≡ reason_at 172 b
    → record { last = last; generation = get_or b 4 0; tcda = get_or b 5 0; notice = eqb (get_or b 6 0) 1; reason = reason } ≡ controller_at b
controller_is b l r = rw (l, r)

pub read_is : (b : List ℕ) {caps : Caps} {oui : ℕ} {host : HostPage} {controller : ControllerPage} → caps ≡ caps_of (get_or b 0 0)
    → oui ≡ value_at 4 8 b → host ≡ host_at b → controller ≡ controller_at b
    → record {
      caps = caps;
      identity = record { oui = oui; hostscope = get_or b 1 0; controllerscope = get_or b 2 0 };
      host = host;
      controller = controller;
    }
    ≡ record_at b
unfolding record_at
read_is b c o h k = rw (c, o, h, k)
