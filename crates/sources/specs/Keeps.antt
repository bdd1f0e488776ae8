-- All that a collection relies on of a source: where demand 2 meets demand 3. p is the collection's plan.
-- Assumes nothing.
use Rattle.std.specs.Prelude.{ℕ, ◌+◌, ◌-◌, ◌*◌, ◌%◌, ◌≤◌, ◌<◌, ◌≡◌, List, true, false, length, take, drop}
use Rattle.copies.specs.Parts.{zeros}
use Rattle.answers.specs.Answers.{success}
use Rattle.pages.specs.Pages.{block}
use Rattle.header.specs.Header.{faultless}
use Rattle.plans.specs.declared.Plan.{Plan}
use Rattle.phases.specs.declared.Phase.{Phase}
use Rattle.phases.specs.declared.Phase.TheVariants.{First, Chunk, Ack}
use Rattle.completions.specs.declared.Seen.{Seen}
use Rattle.phases.specs.Phases.{closing_by}
use Rattle.plans.specs.Plans.{area_last, area_bytes, fits, chunk_of}
use Rattle.phases.specs.Asked.{chunk_in, chunk_blocks, inside_by, expected_by, words_by}
use Rattle.completions.specs.Completions.{seen_of, shows_none}
use Rattle.sources.specs.Source.{Source, Done, for_lent}

-- the completion is the header of a source that shows this
pub record Header (p : Plan) {S : Type 0} (o : Done S) (h : Seen) : Type 0 where
  pub answer : o.answer ≡ success
  pub long : length o.bytes ≡ block
  pub seen : seen_of p o.bytes ≡ h

-- the command that a phase awaits, answered
abbrev pub asks : (D : Source) → Plan → Phase → D.Lent → List ℕ → D.State → Done D.State
asks D p f l last d = D.command l (words_by f p last) d

pub record Keeps (D : Source) (p : Plan) : Type 1 where
  -- what every source of the run keeps, what its header shows, and the bytes of the wanted area
  pub Good : D.State → Type 0
  pub shows : D.State → Seen
  pub area : D.State → List ℕ
  pub sound : (d : D.State) → Good d → faultless (shows d).fault ≡ true
  pub byte : (d : D.State) → Good d → (shows d).generation < 256
  pub four : (d : D.State) → Good d → length (shows d).last ≡ 4
  pub long : (d : D.State) → Good d → length (area d) ≡ area_bytes p (shows d).last
  -- a capture moves the generation on by one, and nothing else does; a drop empties the page; where there is neither, a page that has data still is
  -- as it was
  pub act_good : (e : D.Event) (d : D.State) → Good d → Good (D.act e d)
  pub moves : (e : D.Event) (d : D.State) → Good d → (shows (D.act e d)).generation ≡ ((shows d).generation + D.captures e d) % 256
  pub empties : (e : D.Event) (d : D.State) → Good d → 1 ≤ D.drops e d → (shows (D.act e d)).last ≡ zeros 4
  pub quiet : (e : D.Event) (d : D.State) → Good d → D.captures e d ≡ 0 → D.drops e d ≡ 0 → shows_none p (shows (D.act e d)) ≡ false
      → (shows_none p (shows d) ≡ false) × ((shows (D.act e d)).last ≡ (shows d).last) × (area (D.act e d) ≡ area d)
  -- the first command brings the header of the source as it leaves it
  pub first : (l : D.Lent) (last : List ℕ) (d : D.State) → Good d → for_lent (asks D p First l last d).answer ≡ false
      → Header p (asks D p First l last d) (shows (asks D p First l last d).source) × Good (asks D p First l last d).source
  -- a later header leaves the source as it is
  pub closing : (f : Phase) → closing_by f ≡ true → (l : D.Lent) (last : List ℕ) (d : D.State) → Good d → for_lent (asks D p f l last d).answer ≡ false
      → Header p (asks D p f l last d) (shows d) × ((asks D p f l last d).source ≡ d)
  -- and so does a chunk; if the area is still the one that it was planned for, it is served and brings that part of it, after the blocks in front
  pub chunk : (at : ℕ) (l : D.Lent) (last : List ℕ) (d : D.State) → Good d → fits p last ≡ true → inside_by (Chunk at) p last ≡ true
      → for_lent (asks D p (Chunk at) l last d).answer ≡ false
      → ((asks D p (Chunk at) l last d).source ≡ d)
      × ((asks D p (Chunk at) l last d).answer ≡ success → length (asks D p (Chunk at) l last d).bytes ≡ expected_by (Chunk at) p last)
      × ((shows d).last ≡ last
      → ((asks D p (Chunk at) l last d).answer ≡ success)
      × (chunk_in p (asks D p (Chunk at) l last d).bytes ≡ take (block * chunk_blocks (chunk_of p) at (area_last p last)) (drop (block * (at - 1)) (area d))))
  -- the acknowledgement brings the header; nothing is asked of the source after it
  pub ack : (l : D.Lent) (last : List ℕ) (d : D.State) → Good d → for_lent (asks D p Ack l last d).answer ≡ false → Header p (asks D p Ack l last d) (shows d)
