-- What is written reads back exactly, and intact bytes are the bytes of the record that they say: nothing is lost on either way.
-- Assumes nothing.
use Rattle.std.specs.Prelude.{ℕ, ◌+◌, ◌≡◌, refl, List, ◌++◌, Bool, true, length, get_or, take, drop}
use Rattle.std.proofs.Common.{sym, ap, ◌∙◌, append_assoc, arith, length-append, length-drop, take-append-drop, take_all, drop-drop, take_at, drop_at, le-leb, eqb-true}
use Rattle.choices.specs.Choice.{one}
use Rattle.choices.specs.Tests.{holds, each}
use Rattle.arrays.specs.Arrays.{reason_at}
use Rattle.littleendian.specs.Back.{value_back, run_is, join, Bytes, bytes_kept, eight}
use Rattle.arrays.specs.Back.{fours_back, fours_kept}
use Rattle.pages.specs.declared.Caps.{Caps}
use Rattle.records.specs.declared.Record.{Record}
use Rattle.records.specs.Back.{Typed}
use Rattle.shared_layouts.specs.Back.{one_most, one_back, one_kept, caps_most, caps_back, caps_kept}
use Rattle.record_layout.specs.Layout.{record_marks, record_front, record_bytes, record_at, record_intact}

-- a written record is intact
pub record_intact_lem : (r : Record) → record_intact (record_bytes r) ≡ true
unfolding record_intact record_bytes holds
record_intact_lem r = rw (caps_most r.caps, le-leb (one r.controller.notice) 1 (one_most r.controller.notice))

host_reason_back : (f h k : List ℕ) → length f ≡ 44 → length h ≡ 128 → reason_at 44 (f ++ h ++ k) ≡ h
host_reason_back f h k lf lh = rw (append_assoc f h k, drop_at f (h ++ k) 44 lf, take_at h k 128 lh)

controller_reason_back : (f h k : List ℕ) → length f ≡ 44 → length h ≡ 128 → length k ≡ 128 → reason_at 172 (f ++ h ++ k) ≡ k
controller_reason_back f h k lf lh lk = rw (drop_at (f ++ h) k 172 (simp length-append (omega arith))) (take_all 128 k (omega arith))

same_record : (r : Record) {caps : Caps} {oui : ℕ} {notice : Bool} {hl hr kl kr : List ℕ} → caps ≡ r.caps → oui ≡ r.identity.oui
    → hl ≡ r.host.last → hr ≡ r.host.reason → kl ≡ r.controller.last → kr ≡ r.controller.reason → notice ≡ r.controller.notice
    → record {
      caps = caps;
      identity = record { oui = oui; hostscope = r.identity.hostscope; controllerscope = r.identity.controllerscope };
      host = record { last = hl; generation = r.host.generation; reason = hr };
      controller = record { last = kl; generation = r.controller.generation; tcda = r.controller.tcda; notice = notice; reason = kr };
    }
    ≡ r
same_record r c o hl hr kl kr n = rw (c, o, hl, hr, kl, kr, n)

-- and reads back to the record that was written
pub record_back : (r : Record) → Typed r → record_at (record_bytes r) ≡ r
unfolding record_at record_bytes
record_back r t =
    let f = record_front (record_marks r) r.identity.oui r.host.last r.controller.last in
    same_record r (caps_back r.caps)
    (value_back 4 r.identity.oui t.ranged.oui)
    (fours_back r.host.last (record { four = t.sized.host_four; each = t.ranged.host_last }))
    (host_reason_back f r.host.reason r.controller.reason refl t.sized.host_reason)
    (fours_back r.controller.last (record { four = t.sized.controller_four; each = t.ranged.controller_last }))
    (controller_reason_back f r.host.reason r.controller.reason refl t.sized.host_reason t.sized.controller_reason)
    (one_back r.controller.notice)

-- a front of a list, a part and the rest are the list
parts_all : (m n : ℕ) (l : List ℕ) → length l ≡ m + n + n → take m l ++ take n (drop m l) ++ take n (drop (m + n) l) ≡ l
parts_all m n l e =
    append_assoc (take m l) (take n (drop m l)) (take n (drop (m + n) l))
    ∙ ap (λ (r : List ℕ). take m l ++ (take n (drop m l) ++ r))
    (take_all n (drop (m + n) l) (simp length-drop (omega arith)) ∙ sym (drop-drop n m l))
    ∙ ap (λ (r : List ℕ). take m l ++ r) (take-append-drop n (drop m l))
    ∙ take-append-drop m l

-- intact bytes are the bytes of the record that they say
pub record_bytes_back : (b : List ℕ) → length b ≡ 300 → Bytes b → record_intact b ≡ true → record_bytes (record_at b) ≡ b
unfolding record_bytes record_at record_intact
record_bytes_back b l t s =
    let marks =
    eight (caps_kept (get_or b 0 0) (each _ s 0)) refl refl refl refl refl (one_kept (get_or b 6 0) (each _ s 1))
    (sym (eqb-true (get_or b 7 0) 0 (each _ s 2)))
    in
    ap (λ (f : List ℕ). f ++ reason_at 44 b ++ reason_at 172 b)
    (join marks (bytes_kept 4 8 b t) (fours_kept 12 b t) (fours_kept 28 b t) ∙ run_is 44 0 b (omega arith))
    ∙ parts_all 44 128 b (omega arith)
