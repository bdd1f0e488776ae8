-- What holds of a run after each command and after each event: the invariant, by what is awaited.
-- Assumes nothing.
use Rattle.std.specs.Prelude.{ℕ, ◌+◌, ◌-◌, ◌*◌, ◌%◌, ◌≤◌, ◌≡◌, Bool, true, false, not, length, take}
use Rattle.choices.specs.Choice.{pick}
use Rattle.pages.specs.Pages.{block, most4}
use Rattle.plans.specs.declared.Plan.{Plan}
use Rattle.phases.specs.declared.Phase.{Phase}
use Rattle.phases.specs.declared.Phase.TheVariants.{First, Chunk, Close, Ack, Ended}
use Rattle.plans.specs.Plans.{area_last, area_bytes}
use Rattle.completions.specs.Completions.{shows_none}
use Rattle.collection.specs.Collection.{awaited_of}
use Rattle.collection.specs.declared.Finish.{Finish}
use Rattle.collection.specs.declared.Next.TheVariants.{Send, End as Ends}
use Rattle.runs.specs.Run.{most_chunks}
use Rattle.runs.specs.Bound.{Reached}
use Rattle.sources.specs.Source.{Source, Stand}
use Rattle.sources.specs.Keeps.{Keeps}
use Rattle.sources.specs.Promise.{Told}

module _ (D : Source) (p : Plan) (K : Keeps D p) where
  -- ---- in every phase

  pub record Common (s : Stand D) : Type 0 where
    pub plan : s.collection.plan ≡ p
    pub size : length s.copy ≡ p.room
    pub house : Reached most4 s.collection
    pub reached : Reached (most_chunks p s.headers) s.collection
    pub counted : s.collection.count ≡ length s.sent
    -- a failed attempt saw a capture or a drop
    pub tries : s.collection.attempt.number + s.counts.captures + s.counts.drops ≤ s.counts.changes + 1

  -- ---- in an attempt

  -- the page is still the one that the attempt's header showed, no chunk was refused, and the first blocks are in the copy
  pub record Still (s : Stand D) (done : ℕ) (served : Bool) : Type 0 where
    pub area : K.area s.source ≡ K.area s.checked
    pub whole : served ≡ true
    pub filled : take (block * done) s.copy ≡ take (block * done) (K.area s.checked)

  -- the last blocks are those of the attempt's header
  abbrev pub SameLast : Stand D → Type 0
  SameLast s = (K.shows s.source).last ≡ s.collection.attempt.last

  -- the attempt's header is the last one that was judged; the generation moved on by the captures since, and with neither a capture nor a drop the last
  -- blocks of a page that has data are its own
  pub record Opened (s : Stand D) : Type 0 where
    pub said : s.said ≡ Send (awaited_of s.collection)
    pub generation : s.collection.attempt.generation ≡ (K.shows s.checked).generation
    pub last : s.collection.attempt.last ≡ (K.shows s.checked).last
    pub good : K.Good s.checked
    pub here : K.Good s.source
    pub live : shows_none p (K.shows s.checked) ≡ false
    pub gens : (K.shows s.source).generation ≡ (s.collection.attempt.generation + s.counts.captures) % 256
    pub stays : s.counts.captures ≡ 0 → s.counts.drops ≡ 0 → shows_none p (K.shows s.source) ≡ false → SameLast s
    pub begun : 2 ≤ length s.sent

  -- with no capture since and the same last blocks the page is the same, whether it was dropped or not: an area of no blocks asks for no chunk
  pub record Mid (s : Stand D) (done : ℕ) (served : Bool) : Type 0 where
    pub opened : Opened s
    pub kept : s.counts.captures ≡ 0 → shows_none p (K.shows s.source) ≡ false → SameLast s → Still s done served
    pub some : area_last p s.collection.attempt.last ≡ 0 → (done ≡ 0) × (served ≡ true)

  -- the copy stands, and the acknowledgement is awaited
  pub record Had (s : Stand D) : Type 0 where
    pub opened : Opened s
    pub filled : take (area_bytes p s.collection.attempt.last) s.copy ≡ K.area s.checked

  -- ---- at the end

  pub record Over (s : Stand D) : Type 0 where
    pub ending : Finish
    pub said : s.said ≡ Ends ending
    pub told : Told D p K ending s
    pub count : ending.count ≡ length s.sent

  -- ---- by phase

  abbrev pub At : Phase → Stand D → Type 0
  At First s = ⊥
  At (Chunk at) s = Mid s (at - 1) true
  At (Close after) s = Mid s (pick after 0 (area_last p s.collection.attempt.last)) (not after)
  At Ack s = Had s
  At Ended s = Over s

  pub record Inv (s : Stand D) : Type 0 where
    pub common : Common s
    pub now : At s.collection.phase s
