-- The two telemetry pages, and document 01, "Header bytes", on the size of a page. A group a of four last blocks is a1 to a4 in this order. All areas start at block 1.
-- Assumes nothing.
use Rattle.std.specs.Prelude.{ℕ, ◌+◌, ◌*◌, List, Bool, ◌&&◌, ◌||◌, get_or, eqb}
use Rattle.choices.specs.Choice.{pick}
use Rattle.pages.specs.declared.Caps.{Caps}

-- telemetry host-initiated, telemetry controller-initiated
abbrev pub host_page : ℕ
host_page = 0x07

abbrev pub controller_page : ℕ
controller_page = 0x08

-- one of the two
abbrev pub telemetry_page : ℕ → Bool
telemetry_page page = eqb page host_page || eqb page controller_page

-- what is 07h's, else 08h's
abbrev pub per_page : {A : Type 0} → ℕ → A → A → A
per_page page host controller = pick (eqb page host_page) host controller

-- the bytes of a block, and of the header
abbrev pub block : ℕ
block = 512

-- the greatest last block of areas 1 to 3
abbrev pub most3 : ℕ
most3 = 65535

-- the greatest last block of area 4, a house limit
abbrev pub most4 : ℕ
most4 = 1048576

-- the last block of an area
abbrev pub last_of : ℕ → List ℕ → ℕ
last_of area a = pick (eqb area 1) (get_or a 0 0) (pick (eqb area 2) (get_or a 1 0) (pick (eqb area 3) (get_or a 2 0) (get_or a 3 0)))

-- area 4 is there for this host
abbrev pub area4 : Caps → Bool
area4 caps = caps.da4s && caps.etdas

-- the blocks of a page after its header
unfoldable pub blocks_of : Caps → List ℕ → ℕ
blocks_of caps a = pick (area4 caps) (get_or a 3 0) (get_or a 2 0)

-- a page's size in bytes
unfoldable pub size_of : Caps → List ℕ → ℕ
size_of caps a = block * (1 + blocks_of caps a)
