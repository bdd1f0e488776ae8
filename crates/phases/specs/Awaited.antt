-- The awaited command is never a builder's refusal: under a plan that setup takes, while its chunk lies within the area, its words ask
-- for just what the phase asks for.
-- Assumes nothing.
use Rattle.std.specs.Prelude.{ℕ, ◌+◌, ◌≤◌, ◌≡◌, refl, List, Bool, true, false, not, ◌&&◌, ◌||◌, leb, eqb}
use Rattle.std.proofs.Common.{ap, arith, le-leb}
use Rattle.choices.specs.Choice.{pick}
use Rattle.choices.specs.Tests.{holds, each, and_left, and_right, clash}
use Rattle.answers.specs.Answers.{success}
use Rattle.pages.specs.Pages.{block, most4}
use Rattle.words.specs.declared.Command.{Command}
use Rattle.words.specs.Words.{most_blocks, taken, read_of}
use Rattle.words.specs.Back.{meant, built_back}
use Rattle.words.specs.declared.Ask.{Ask}
use Rattle.plans.specs.declared.Plan.{Plan}
use Rattle.phases.specs.declared.Phase.{Phase}
use Rattle.phases.specs.declared.Phase.TheVariants.{First, Chunk, Close, Ack, Ended}
use Rattle.phases.specs.Phases.{first_by, judged_by, ack_by, ended_by, closing_is, by_header}
use Rattle.plans.specs.Plans.{plan_tests, setup_answer, area_last, fits, chunk_of, lead_of}
use Rattle.phases.specs.Asked.{start_of, chunk_blocks, mcda_of, asks_for, built_for, words_by, expected_by, inside_by, within_by}
use Rattle.plans.specs.Limits.{plan_taken, plan_limits, area_limit}
use Rattle.phases.specs.Chunks.{chunk_inside, chunk_most, chunk_some}

-- what each phase asks of the controller
abbrev pub meant_for : ℕ → Ask → Command
meant_for page a = meant page a.create a.mcda a.rae a.offset a.blocks

abbrev pub command_by : Phase → Plan → List ℕ → Command
command_by f p last = meant_for p.page (asks_for f p last)

-- the builder takes the awaited command, and its words are read back to what the phase asks for, with the plan's own extended data, and with all bits of the
-- length
pub record Awaits (f : Phase) (p : Plan) (last : List ℕ) : Type 0 where
  pub answer : (built_for p.page (asks_for f p last)).answer ≡ success
  pub reads : read_of p.caps.extended (words_by f p last) ≡ command_by f p last
  pub long : read_of true (words_by f p last) ≡ command_by f p last

-- a header that is judged has a block
pub header_block : (f : Phase) (p : Plan) (last : List ℕ) → judged_by f ≡ true → expected_by f p last ≡ block
header_block f p last e =
    by_header f e (λ a. ap (λ (g : Phase). expected_by g p last) a) (λ c. ap (λ (g : Phase). expected_by g p last) (closing_is f c).is)

-- RAE is 0 in the acknowledgement alone, and create goes with the first command alone
pub asks_rae : (f : Phase) (p : Plan) (last : List ℕ) → (asks_for f p last).rae ≡ not (ack_by f)
asks_rae First p last = refl
asks_rae (Chunk at) p last = refl
asks_rae (Close after) p last = refl
asks_rae Ack p last = refl
asks_rae Ended p last = refl

pub asks_create : (f : Phase) (p : Plan) (last : List ℕ) → (asks_for f p last).create ≡ (first_by f && p.create)
asks_create First p last = refl
asks_create (Chunk at) p last = refl
asks_create (Close after) p last = refl
asks_create Ack p last = refl
asks_create Ended p last = refl

-- an old run sends no offset
pub asks_offset : (f : Phase) (p : Plan) (last : List ℕ) → p.caps.extended ≡ false → (asks_for f p last).offset ≡ 0
asks_offset First p last o = refl
asks_offset (Chunk at) p last o = rw o
asks_offset (Close after) p last o = refl
asks_offset Ack p last o = refl
asks_offset Ended p last o = refl

-- ---- the builder takes what is asked for

abbrev pub takes : ℕ → Ask → Bool
takes page a = taken page a.create a.mcda a.offset a.blocks

pub first_mcda : (create mcdas : Bool) (area : ℕ) → area ≤ 4
    → (leb (pick (create && mcdas) area 0) 4 ≡ true) × (create || eqb (pick (create && mcdas) area 0) 0 ≡ true)
first_mcda true true area h = (le-leb area 4 h, refl)
first_mcda true false area h = (refl, refl)
first_mcda false mcdas area h = (refl, refl)

first_taken : (p : Plan) → setup_answer p ≡ success → taken p.page p.create (mcda_of p) 0 1 ≡ true
unfolding taken holds
first_taken p e =
    let t = (plan_taken p e).0 in
    let m = first_mcda p.create p.caps.mcdas p.area (plan_limits p e).area_high in
    rw (each (plan_tests p) t 0, each (plan_tests p) t 6, m.0, m.1)

plain_taken : (p : Plan) (at n : ℕ) → setup_answer p ≡ success → at ≤ most4 → 1 ≤ n → n ≤ most_blocks → taken p.page false 0 at n ≡ true
unfolding taken holds
plain_taken p at n e l a b = rw (each (plan_tests p) (plan_taken p e).0 0, le-leb 1 n a, le-leb n most_blocks b, le-leb at most4 l)

header_taken : (p : Plan) → setup_answer p ≡ success → taken p.page false 0 0 1 ≡ true
header_taken p e = plain_taken p 0 1 e (omega arith) (omega arith) (omega arith)

-- a chunk that starts within the area is one that the builder takes
pub chunk_taken_lem : (p : Plan) (last : List ℕ) (at : ℕ) → setup_answer p ≡ success → fits p last ≡ true → inside_by (Chunk at) p last ≡ true
    → taken p.page false 0 (start_of p at) (lead_of p + chunk_blocks (chunk_of p) at (area_last p last)) ≡ true
chunk_taken_lem p last at e r i =
    let l = plan_limits p e in
    let b = area_limit p last e r in
    let c = chunk_inside p last at i in
    let m = chunk_most (chunk_of p) at (area_last p last) in
    let n = chunk_some (chunk_of p) at (area_last p last) l.chunk_low c.high in
    plain_taken p (start_of p at) (lead_of p + chunk_blocks (chunk_of p) at (area_last p last)) e (omega (arith, c.start, c.high)) (omega arith) (omega (arith, l.chunk_high))

ask_taken : (f : Phase) (p : Plan) (last : List ℕ) → setup_answer p ≡ success → within_by f p last ≡ true → ended_by f ≡ false
    → takes p.page (asks_for f p last) ≡ true
unfolding within_by
ask_taken First p last e w g = first_taken p e
ask_taken (Chunk at) p last e w g =
    chunk_taken_lem p last at e (and_left (fits p last) (inside_by (Chunk at) p last) w) (and_right (fits p last) (inside_by (Chunk at) p last) w)
ask_taken (Close after) p last e w g = header_taken p e
ask_taken Ack p last e w g = header_taken p e
ask_taken Ended p last e w g = clash {t = true} refl g

-- an old run asks for at most 32 blocks, whose length CDW10 alone holds
pub ask_few : (f : Phase) (p : Plan) (last : List ℕ) → setup_answer p ≡ success → p.caps.extended ≡ false → (asks_for f p last).blocks ≤ 32
ask_few First p last e o = omega arith
ask_few (Chunk at) p last e o = omega (arith, (plan_limits p e).chunk_old o, chunk_most (chunk_of p) at (area_last p last))
ask_few (Close after) p last e o = omega arith
ask_few Ack p last e o = omega arith
ask_few Ended p last e o = omega arith

pub awaited_built : (f : Phase) (p : Plan) (last : List ℕ) → setup_answer p ≡ success → within_by f p last ≡ true → ended_by f ≡ false → Awaits f p last
unfolding words_by
awaited_built f p last e w g =
    let a = asks_for f p last in
    let t = ask_taken f p last e w g in
    let b = built_back p.caps.extended p.page a.create a.mcda a.rae a.offset a.blocks t (ask_few f p last e) in
    record { answer = b.0; reads = b.1; long = (built_back true p.page a.create a.mcda a.rae a.offset a.blocks t (λ z. clash {t = true} refl z)).1 }
