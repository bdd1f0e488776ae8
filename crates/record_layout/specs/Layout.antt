-- struct bumbazeel_record of include/bumbazeel.h (300 bytes), field by field in the file's order.
-- Assumes nothing.
use Rattle.std.specs.Prelude.{ℕ, List, [], ◌∷◌, ◌++◌, Bool, get_or, leb, eqb}
use Rattle.choices.specs.Choice.{one}
use Rattle.choices.specs.Tests.{holds}
use Rattle.littleendian.specs.Numbers.{bytes_of, value_at}
use Rattle.arrays.specs.Arrays.{fours_of, fours_at, reason_at}
use Rattle.records.specs.declared.HostPage.{HostPage}
use Rattle.records.specs.declared.ControllerPage.{ControllerPage}
use Rattle.records.specs.declared.Record.{Record}
use Rattle.shared_layouts.specs.Layouts.{most_caps, caps_byte, caps_of}

-- its first eight bytes
abbrev pub record_marks : Record → List ℕ
record_marks r =
    caps_byte r.caps
    ∷ r.identity.hostscope
    ∷ r.identity.controllerscope
    ∷ r.host.generation
    ∷ r.controller.generation
    ∷ r.controller.tcda
    ∷ one r.controller.notice
    ∷ 0
    ∷ []

-- what stands before the reasons
abbrev pub record_front : List ℕ → ℕ → List ℕ → List ℕ → List ℕ
record_front marks oui hostLast controllerLast =
    marks
    ++ bytes_of 4 oui  -- 8
    ++ fours_of hostLast  -- 12
    ++ fours_of controllerLast  -- 28

-- a record's 300 bytes
unfoldable pub record_bytes : Record → List ℕ
record_bytes r =
    record_front (record_marks r) r.identity.oui r.host.last r.controller.last
    ++ r.host.reason  -- 44
    ++ r.controller.reason  -- 172

-- page 07h in a record's bytes
abbrev pub host_at : List ℕ → HostPage
host_at b = record { last = fours_at 12 b; generation = get_or b 3 0; reason = reason_at 44 b }

-- page 08h in a record's bytes
abbrev pub controller_at : List ℕ → ControllerPage
controller_at b = record { last = fours_at 28 b; generation = get_or b 4 0; tcda = get_or b 5 0; notice = eqb (get_or b 6 0) 1; reason = reason_at 172 b }

-- the record that the bytes say
unfoldable pub record_at : List ℕ → Record
record_at b = record {
  caps = caps_of (get_or b 0 0);
  identity = record { oui = value_at 4 8 b; hostscope = get_or b 1 0; controllerscope = get_or b 2 0 };
  host = host_at b;
  controller = controller_at b;
}

-- a record that is not damaged: capabilities of five bits, a notice of 0 or 1, and the zero byte
unfoldable pub record_intact : List ℕ → Bool
record_intact b = holds (leb (get_or b 0 0) most_caps ∷ leb (get_or b 6 0) 1 ∷ eqb (get_or b 7 0) 0 ∷ [])
