-- What is promised of a run: how it may end, that every ending is true, and its bound.
-- Assumes nothing.
use Rattle.std.specs.Prelude.{ℕ, ◌+◌, ◌-◌, ◌*◌, ◌%◌, ◌≤◌, ◌<◌, ◌≡◌, ◌++◌, Bool, true, false, not, length, eqb}
use Rattle.copies.specs.Parts.{zeros}
use Rattle.pages.specs.Pages.{most4}
use Rattle.plans.specs.declared.Plan.{Plan}
use Rattle.plans.specs.Plans.{area_last, area_bytes, reach}
use Rattle.completions.specs.Completions.{shows_none}
use Rattle.endings.specs.declared.Ending.TheVariants.{Success, OutOfReach, NoRoom, Withdrawn, Nothing}
use Rattle.collection.specs.declared.Finish.{Finish}
use Rattle.collection.specs.declared.Next.TheVariants.{End as Ends, Refuse}
use Rattle.runs.specs.Run.{acknowledging, most_chunks}
use Rattle.sources.specs.Source.{Source, Stand}
use Rattle.sources.specs.Keeps.{Keeps}

-- the run has ended
pub record Finished (D : Source) (s : Stand D) : Type 0 where
  pub ending : Finish
  pub said : s.said ≡ Ends ending

-- so many captures leave another generation than there was: 256 of them bring it round
abbrev pub noticed : ℕ → Bool
noticed captures = not (eqb (captures % 256) 0)

-- the most commands of a run with k captures and drops at most, C being the chunks: 1 + (k + 1)(C + 1), one more on 08h
abbrev pub most_commands : Plan → ℕ → ℕ → ℕ
most_commands p k chunks = 1 + (k + 1) * (chunks + 1) + acknowledging p

module _ (D : Source) (p : Plan) (K : Keeps D p) where
  -- how a run may end, d being the source at the last header that was judged:
  -- with success, and then the copy is the wanted area of d and zeros after it, and a newer capture is said to be unread just where the generation shows it;
  -- for want of room, since the area of d, which is in reach, is larger than the copy;
  -- out of reach, since there is no extended data, and the area of d is past block 31;
  -- withdrawn, since 08h of d has no data and the first header was another one;
  -- with nothing, since 08h of d has no data and no other command was sent.
  -- All but success leave zeros.
  pub data Told (e : Finish) (s : Stand D) : Type 0 where
    succeeded : e.ending ≡ Success (noticed s.counts.captures) → s.copy ≡ K.area s.checked ++ zeros (p.room - length (K.area s.checked))
        → shows_none p (K.shows s.checked) ≡ false → Told e s
    lacked : e.ending ≡ NoRoom → s.copy ≡ zeros p.room → (p.caps.extended ≡ false → area_last p (K.shows s.checked).last ≤ reach)
        → p.room < area_bytes p (K.shows s.checked).last → Told e s
    unreached : e.ending ≡ OutOfReach → s.copy ≡ zeros p.room → p.caps.extended ≡ false → reach < area_last p (K.shows s.checked).last → Told e s
    withdrew : e.ending ≡ Withdrawn → s.copy ≡ zeros p.room → shows_none p (K.shows s.checked) ≡ true → 2 ≤ length s.sent → Told e s
    empty : e.ending ≡ Nothing → s.copy ≡ zeros p.room → shows_none p (K.shows s.checked) ≡ true → length s.sent ≡ 1 → Told e s

  -- of a run with k captures and drops at most
  pub record Promise (k : ℕ) (s : Stand D) : Type 0 where
    -- the count is the length of the record, and within that number, C being the greatest number of chunks planned from a header of the run, and also with C at
    -- the house limit
    pub counted : s.collection.count ≡ length s.sent
    pub bounded : s.collection.count ≤ most_commands p k (most_chunks p s.headers)
    pub limited : s.collection.count ≤ most_commands p k most4
    -- without extended data, with C at 1
    pub once : p.caps.extended ≡ false → s.collection.count ≤ most_commands p k 1
    -- never 13, 14 or 15
    pub never : (n : ℕ) → s.said ≡ Refuse n → ⊥
    -- every ending is one of the five, and says the count
    pub told : (e : Finish) → s.said ≡ Ends e → Told e s
    pub says : (e : Finish) → s.said ≡ Ends e → e.count ≡ length s.sent
