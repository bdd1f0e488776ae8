-- A header that is judged keeps the invariant: the first one, and each that closes an attempt.
-- Assumes nothing.
use Rattle.std.specs.Prelude.{ℕ, ◌+◌, ◌-◌, ◌%◌, ◌≤◌, ◌<◌, ◌≡◌, List, [], ◌∷◌, ◌++◌, Bool, length, take, eqb}
use Rattle.std.proofs.Math.Path.{refl, sym, ap}
use Rattle.std.proofs.Common.{subst, ◌∙◌, arith, length-append, take_all, leb-false, eq-eqb, eqb-true}
use Rattle.std.proofs.Math.Bool.{true, false}
use Rattle.choices.specs.Tests.{by_test, clash, and_left, and_right, same_or_not}
use Rattle.copies.specs.Parts.{zeros}
use Rattle.answers.specs.Answers.{success}
use Rattle.header.specs.Header.{faultless}
use Rattle.pages.specs.Pages.{controller_page}
use Rattle.lastblocks.specs.LastBlocks.{same_last}
use Rattle.lastblocks.specs.Laws.{same_itself, same_last_lem}
use Rattle.words.specs.declared.Words.{Words}
use Rattle.plans.specs.declared.Plan.{Plan}
use Rattle.phases.specs.declared.Phase.{Phase}
use Rattle.phases.specs.declared.Phase.TheVariants.{First, Chunk, Ack}
use Rattle.completions.specs.declared.Seen.{Seen}
use Rattle.phases.specs.Phases.{judged_by, closing_by, refused_by, judged_going}
use Rattle.plans.specs.Plans.{area_last, area_bytes, fits_room, area_answer, fits}
use Rattle.plans.specs.Limits.{short_is, near_is, far_is}
use Rattle.phases.specs.Awaited.{header_block}
use Rattle.completions.specs.Completions.{seen_of, shows_none}
use Rattle.judgement.specs.Judgement.{matches}
use Rattle.collection.specs.Collection.{awaited_of, expected_of, refusal_of, number_in, sends, ends}
use Rattle.collection.specs.Steps.{in_phase, opened_by, ended_in, first_none, first_short, first_opens, later_none, later_done, later_acknowledges, later_short, later_opens}
use Rattle.endings.specs.declared.Ending.{Ending}
use Rattle.endings.specs.declared.Ending.TheVariants.{Success, OutOfReach, NoRoom, Withdrawn, Nothing}
use Rattle.endings.specs.Endings.{short_by}
use Rattle.turns.specs.Turns.{good as succeeds}
use Rattle.collection.specs.declared.Collection.{Collection}
use Rattle.collection.specs.declared.Next.TheVariants.{Send}
use Rattle.collection.specs.Told.{Stepped}
use Rattle.collection.specs.Copied.{ending_copy, sending_copy}
use Rattle.sources.specs.Source.{Source, ours, Done, heard, Stand, for_lent, fine, data_of, stepped, hears}
use Rattle.sources.specs.Keeps.{Keeps, Header}
use Rattle.sources.specs.Promise.{Told, succeeded, lacked, unreached, withdrew, empty}
use Rattle.sources.specs.Inv.{Common, Still, SameLast, Opened, Mid, Had, Inv}
use Rattle.sources.specs.Heard.{takes, at_phase, step, copied, finish, zeroed, ended}

header_no_chunk : (f : Phase) (at : ℕ) → judged_by f ≡ true → f ≡ Chunk at → ⊥
header_no_chunk f at e q = clash {t = true} refl (sym (rw q at e))

module _ (D : Source) (p : Plan) (K : Keeps D p) (s : Stand D) (o : Done D.State) (c : Common D p K s) (f : judged_by s.collection.phase ≡ true) (hdr : Header p o (K.shows o.source)) (good : K.Good o.source) where
  abbrev state : Collection
  state = s.collection

  abbrev h : Seen
  h = K.shows o.source

  -- the completion is a success with a good header, and it is taken
  is_fine : fine o ≡ true
  is_fine = eq-eqb o.answer success hdr.answer

  is_data : data_of o ≡ o.bytes
  is_data = rw is_fine

  -- what the check finds in it
  abbrev found : Seen
  found = seen_of state.plan (data_of o)

  look : found ≡ h
  look = rw (is_data, c.plan) hdr.seen

  taken : refusal_of state (fine o) (length (data_of o)) (length s.copy) ≡ success
  unfolding expected_of
  taken =
      takes state (fine o) (data_of o) (length s.copy) c.house (judged_going state.phase f) (c.size ∙ ap (λ (q : Plan). q.room) (sym c.plan))
      (rw is_data (rw is_fine (hdr.long ∙ sym (header_block state.phase state.plan state.attempt.last f))))

  sound : faultless found.fault ≡ true
  sound = ap (λ (x : Seen). faultless x.fault) look ∙ K.sound o.source good

  none_is : (t : Bool) → shows_none p h ≡ t → shows_none state.plan found ≡ t
  none_is t e = rw (look, c.plan) e

  fits_is : (t : Bool) → fits p h.last ≡ t → fits state.plan found.last ≡ t
  fits_is t e = rw (look, c.plan) e

  -- the stand after it, whose last header this is
  abbrev judged : Stepped → List ℕ → Stand D
  judged x y = record {
    collection = x.state;
    said = x.next;
    copy = y;
    source = o.source;
    sent = (stepped D s o x y).sent;
    headers = data_of o ∷ s.headers;
    checked = o.source;
    counts = heard true (for_lent o.answer) s.counts;
  }

  judged_is : (x : Stepped) (y : List ℕ) → judged x y ≡ stepped D s o x y
  judged_is x y = rw f

  -- ---- endings

  -- one that leaves zeros, and is true
  fails : (next : Bool) (e : Ending) → succeeds e ≡ false → number_in state next ≤ s.counts.changes + 1 → step D p K s o ≡ ends (ended_in state next) e
      → Told D p K (record { ending = e; count = state.count }) (judged (ends (ended_in state next) e) (zeros p.room)) → Inv D p K (hears ours D s o)
  fails next e l t ex told =
      ended D p K s o c next e (zeros p.room) ex (zeroed D p K s o c next e l ex) (rw f (omega arith))
      (subst (λ (z : Stand D). Told D p K (record { ending = e; count = state.count }) z) (judged_is (ends (ended_in state next) e) (zeros p.room)) told)

  -- the area is out of reach, or larger than the copy
  short : (next : Bool) → fits p h.last ≡ false → number_in state next ≤ s.counts.changes + 1
      → step D p K s o ≡ ends (ended_in state next) (short_by (area_answer state.plan found.last)) → Inv D p K (hears ours D s o)
  unfolding fits_room
  short next r t ex =
      let says : area_answer state.plan found.last ≡ area_answer p h.last = rw (look, c.plan) in
      short_is p h.last r
      (λ far b. let n = far_is p h.last far in fails next OutOfReach refl t (ex ∙ rw (says, b)) (unreached refl refl n.0 n.1))
      (λ near large b. fails next NoRoom refl t (ex ∙ rw (says, b)) (lacked refl refl (near_is p h.last near) (leb-false (area_bytes p h.last) p.room large)))

  -- ---- the header opens an attempt

  one_more : (x : Stepped) (w : Words) → x.next ≡ Send w → 1 ≤ length s.sent → 2 ≤ length (stepped D s o x []).sent
  one_more x w e l = rw e (omega (arith, length-append s.sent (w ∷ [])))

  opens : (next : Bool) → shows_none p h ≡ false → 1 ≤ length s.sent → number_in state next ≤ s.counts.changes + 1
      → step D p K s o ≡ sends (opened_by state next h) → Inv D p K (hears ours D s o)
  unfolding awaited_of
  opens next live some t ex =
      let x : Stepped = sends (opened_by state next h) in
      let same : copied D p K s o ≡ s.copy =
      sending_copy state (fine o) (data_of o) s.copy (awaited_of (opened_by state next h)) (ap (λ (y : Stepped). y.next) ex)
      (λ at q k. header_no_chunk state.phase at f q) in
      let b = K.byte o.source good in
      let m : Mid D p K (judged x s.copy) 0 true = record {
        opened = record {
          said = refl;
          generation = refl;
          last = refl;
          good = good;
          here = good;
          live = live;
          gens = omega arith;
          stays = λ none whole l. refl;
          begun = one_more x (awaited_of (opened_by state next h)) refl some;
        };
        kept = λ none l same. record { area = refl; whole = refl; filled = refl };
        some = λ z. (refl, refl);
      } in
      finish D p K s o x s.copy ex same c (rw f (omega arith))
      (at_phase D p K (stepped D s o x s.copy) 1 0 (area_last state.plan h.last) (ap (λ (q : Plan). area_last q h.last) c.plan) (λ l. refl) (λ l. omega arith)
      (subst (λ (z : Stand D). Mid D p K z 0 true) (judged_is x s.copy) m))

  -- ---- the first header

  pub first_inv : state.phase ≡ First → length s.sent ≡ 1 → state.attempt.number ≡ 1 → Inv D p K (hears ours D s o)
  first_inv e one a =
      by_test (shows_none p h)
      (λ n.
      let ex = first_none state (fine o) (data_of o) (length s.copy) taken e is_fine sound (none_is true n) in
      ended D p K s o c false Nothing (zeros p.room) ex (zeroed D p K s o c false Nothing refl ex) (rw f (omega arith))
      (subst (λ (z : Stand D). Told D p K (record { ending = Nothing; count = state.count }) z) (judged_is (ends (ended_in state false) Nothing) (zeros p.room))
      (empty refl refl n (omega (arith, one, length-append s.sent [])))))
      (λ n. by_test (fits p h.last)
      (λ r. opens false n (omega arith) (omega arith)
      (first_opens state (fine o) (data_of o) (length s.copy) taken e is_fine sound (none_is false n) (fits_is true r) ∙ ap (λ (x : Seen). sends (opened_by state false x)) look))
      (λ r. short false r (omega arith)
      (first_short state (fine o) (data_of o) (length s.copy) taken e is_fine sound (none_is false n) (fits_is false r))))

  -- ---- a header that closes an attempt: m is what was known before it

  module _ (cl : closing_by state.phase ≡ true) (op : Opened D p K s) (same : o.source ≡ s.source)
      (stood : s.counts.captures ≡ 0 → shows_none p (K.shows s.source) ≡ false → SameLast D p K s → (refused_by state.phase ≡ false) × Still D p K s (area_last p state.attempt.last) true) where
    some : 1 ≤ length s.sent
    some = omega (arith, op.begun)

    low : state.attempt.generation < 256
    low = rw op.generation (K.byte s.checked op.good)

    moved : h.generation ≡ (state.attempt.generation + s.counts.captures) % 256
    moved = rw same op.gens

    gone : shows_none p h ≡ true → Inv D p K (hears ours D s o)
    gone n =
        let ex = later_none state (fine o) (data_of o) (length s.copy) taken cl is_fine sound (none_is true n) in
        ended D p K s o c false Withdrawn (zeros p.room) ex (zeroed D p K s o c false Withdrawn refl ex) (rw f (omega (arith, c.tries)))
        (subst (λ (z : Stand D). Told D p K (record { ending = Withdrawn; count = state.count }) z) (judged_is (ends (ended_in state false) Withdrawn) (zeros p.room))
        (withdrew refl refl n (omega (arith, op.begun, length-append s.sent []))))

    module _ (n : shows_none p h ≡ false) where
      match_is : (t : Bool) → matches state.attempt h ≡ t → matches state.attempt found ≡ t
      match_is t e = rw look e

      -- with neither a capture nor a drop it matches
      unmoved : s.counts.captures ≡ 0 → s.counts.drops ≡ 0 → matches state.attempt h ≡ true
      unmoved none whole =
          let g : h.generation ≡ state.attempt.generation = omega (arith, none, moved, low) in
          let l : h.last ≡ state.attempt.last = ap (λ (d : D.State). (K.shows d).last) same ∙ op.stays none whole (rw (← same) n) in
          rw (eq-eqb h.generation state.attempt.generation g, l) (same_itself state.attempt.last)

      changed : matches state.attempt h ≡ false → 1 ≤ s.counts.captures + s.counts.drops
      changed e =
          same_or_not s.counts.captures 0
          (λ none. same_or_not s.counts.drops 0 (λ whole. clash (unmoved none whole) e) (λ dropped. omega (arith, dropped)))
          (λ moved. omega (arith, moved))

      -- it is no match
      mismatch : s.counts.changes < p.attempts → matches state.attempt h ≡ false → Inv D p K (hears ours D s o)
      mismatch more e =
          let hit = changed e in
          let t : state.attempt.number + 1 ≤ s.counts.changes + 1 = omega (arith, c.tries) in
          let left : state.attempt.number < state.plan.attempts = rw c.plan (omega arith) in
          by_test (fits p h.last)
          (λ r. opens true n some t
          (later_opens state (fine o) (data_of o) (length s.copy) taken cl is_fine sound (none_is false n) (match_is false e) left (fits_is true r)
          ∙ ap (λ (x : Seen). sends (opened_by state true x)) look))
          (λ r. short true r t
          (later_short state (fine o) (data_of o) (length s.copy) taken cl is_fine sound (none_is false n) (match_is false e) left (fits_is false r)))

      -- it is a match: generation and last blocks are the attempt's
      module _ (e : matches state.attempt h ≡ true) where
        same_generation : h.generation ≡ state.attempt.generation
        same_generation = eqb-true h.generation state.attempt.generation (and_left _ (same_last h.last state.attempt.last) e)

        same_blocks : h.last ≡ state.attempt.last
        same_blocks =
            same_last_lem h.last state.attempt.last (K.four o.source good) (ap length op.last ∙ K.four s.checked op.good)
            (and_right (eqb h.generation state.attempt.generation) _ e)

      module _ (e : matches state.attempt h ≡ true) (refused : refused_by state.phase ≡ false) (k : Still D p K s (area_last p state.attempt.last) true) where
        last_is : state.attempt.last ≡ h.last
        last_is = sym (same_blocks e)

        filled : take (area_bytes p state.attempt.last) s.copy ≡ K.area o.source
        filled =
            let l : length (K.area o.source) ≡ area_bytes p state.attempt.last = K.long o.source good ∙ ap (area_bytes p) (sym last_is) in
            k.filled
            ∙ ap (λ (a : List ℕ). take (area_bytes p state.attempt.last) a) (sym k.area ∙ ap K.area (sym same))
            ∙ take_all (area_bytes p state.attempt.last) (K.area o.source) (omega (arith, l))

        -- 08h is to be acknowledged
        acknowledges : eqb p.page controller_page ≡ true → Inv D p K (hears ours D s o)
        unfolding awaited_of
        acknowledges page =
            let x : Stepped = sends (in_phase state Ack) in
            let ex = later_acknowledges state (fine o) (data_of o) (length s.copy) taken cl is_fine sound (none_is false n) (match_is true e) refused (rw c.plan page) in
            let still : copied D p K s o ≡ s.copy =
            sending_copy state (fine o) (data_of o) s.copy (awaited_of (in_phase state Ack)) (ap (λ (y : Stepped). y.next) ex)
            (λ at q z. header_no_chunk state.phase at f q) in
            let b = K.byte o.source good in
            let g = same_generation e in
            finish D p K s o x s.copy ex still c (rw f (omega (arith, c.tries)))
            (subst (λ (z : Stand D). Had D p K z) (judged_is x s.copy)
            (record {
              opened = record {
                said = refl;
                generation = sym g;
                last = last_is;
                good = good;
                here = good;
                live = n;
                gens = omega arith;
                stays = λ none whole l. sym last_is;
                begun = one_more x (awaited_of (in_phase state Ack)) refl some;
              };
              filled = filled;
            }))

        -- 07h is done
        done : eqb p.page controller_page ≡ false → Inv D p K (hears ours D s o)
        done page =
            let ex = later_done state (fine o) (data_of o) (length s.copy) taken cl is_fine sound (none_is false n) (match_is true e) refused (rw c.plan page) in
            let left = ending_copy state (fine o) (data_of o) s.copy (record { ending = Success false; count = state.count }) (ap (λ (y : Stepped). y.next) ex) in
            let l : area_bytes p state.attempt.last ≡ length (K.area o.source) = ap (area_bytes p) last_is ∙ sym (K.long o.source good) in
            let ey : copied D p K s o ≡ K.area o.source ++ zeros (p.room - length (K.area o.source)) =
            left.stood refl ∙ rw (c.plan, c.size, filled, l) in
            ended D p K s o c false (Success false) _ ex ey (rw f (omega (arith, c.tries)))
            (subst (λ (z : Stand D). Told D p K (record { ending = Success false; count = state.count }) z)
            (judged_is (ends (ended_in state false) (Success false)) (K.area o.source ++ zeros (p.room - length (K.area o.source))))
            (succeeded refl refl n))

        stands : Inv D p K (hears ours D s o)
        stands = by_test (eqb p.page controller_page) (λ t. acknowledges t) (λ t. done t)

    pub closing_inv : s.counts.captures ≤ 255 → s.counts.changes < p.attempts → Inv D p K (hears ours D s o)
    closing_inv few more =
        by_test (shows_none p h)
        (λ n. gone n)
        (λ n. by_test (matches state.attempt h)
        (λ e.
        let none : s.counts.captures ≡ 0 = omega (arith, same_generation n e, moved, low) in
        let k = stood none (rw (← same) n) (ap (λ (d : D.State). (K.shows d).last) (sym same) ∙ same_blocks n e) in
        stands n e k.0 k.1)
        (λ e. mismatch n more e))
