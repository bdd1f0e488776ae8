-- The controller is a source that keeps all that a collection relies on.
-- Assumes nothing.
use Rattle.std.specs.Prelude.{ℕ, ◌+◌, ◌%◌, ◌≤◌, ◌<◌, ◌≡◌, List, Bool, ◌&&◌, length, eqb}
use Rattle.std.proofs.Math.Path.{refl, ap, subst}
use Rattle.std.proofs.Common.{sym, ◌∙◌}
use Rattle.std.proofs.Math.Bool.{true, false}
use borrow.Author.Tests.{eqb-true, leb-true}
use Rattle.choices.specs.Choice.{pick}
use Rattle.choices.specs.Tests.{by_test, clash, each, or_cases}
use Rattle.copies.specs.Parts.{zeros}
use Rattle.answers.specs.Answers.{success}
use Rattle.pages.specs.Pages.{host_page, controller_page}
use Rattle.words.specs.declared.Words.{Words}
use Rattle.header.specs.Header.{faultless}
use Rattle.records.specs.Records.{host_fields, controller_fields, fields_for}
use Rattle.plans.specs.declared.Plan.{Plan}
use Rattle.phases.specs.declared.Phase.{Phase}
use Rattle.phases.specs.declared.Phase.TheVariants.{First, Chunk, Close, Ack, Ended}
use Rattle.phases.specs.Awaited.{first_mcda}
use Rattle.plans.specs.Limits.{plan_taken, plan_limits}
use Rattle.phases.specs.Phases.{closing_by}
use Rattle.plans.specs.Plans.{plan_tests, setup_answer}
use Rattle.phases.specs.Asked.{mcda_of, words_by}
use Rattle.controller.specs.Controller.{World}
use Rattle.demand3.specs.Answered.{sends, retained}
use Rattle.sources.specs.Source.{for_lent}
use Rattle.sources.specs.Keeps.{Keeps, Header}
use Rattle.demand3.specs.Bench.{Event, Loan, act_of, captures_of, drops_of, own_of, controller_source}
use Rattle.demand3.specs.Shown.{shows_for, wanted_area, Good, plan_page, area_long}
use Rattle.demand3.specs.Events.{act_good, act_moves, act_empties, act_quiet}
use Rattle.demand3.specs.Own.{own_header_law, own_create_law, own_good, chunk_keeps, chunk_long, chunk_right}

module _ (p : Plan) (e : setup_answer p ≡ success) where
  -- create goes with 07h alone
  create_page : p.create ≡ true → p.page ≡ host_page
  create_page c =
      or_cases (eqb p.page host_page) (eqb p.page controller_page) (plan_page p e)
      (λ q. eqb-true p.page host_page q)
      (λ q. clash {t = true} refl (sym (rw (c, q) at (each (plan_tests p) (plan_taken p e).0 6))))

  pub byte : (w : World) → Good p w → (shows_for p.page w).generation < 256
  unfolding shows_for
  byte w g = by_test (eqb p.page host_page) (λ q. rw q g.typed.ranged.host_generation) (λ q. rw q g.typed.ranged.controller_generation)

  pub sound : (w : World) → faultless (shows_for p.page w).fault ≡ true
  unfolding shows_for
  sound w = refl

  pub moves : (x : Event) (w : World) → Good p w → (shows_for p.page (act_of x w)).generation ≡ ((shows_for p.page w).generation + captures_of p.page x w) % 256
  unfolding shows_for
  moves x w g = act_moves p.page (plan_page p e) x w (byte w g)

  pub four : (w : World) → Good p w → length (shows_for p.page w).last ≡ 4
  unfolding shows_for fields_for host_fields controller_fields
  four w g = by_test (eqb p.page host_page) (λ q. rw q g.typed.sized.host_four) (λ q. rw q g.typed.sized.controller_four)

  pub empties : (x : Event) (w : World) → 1 ≤ drops_of p.page x w → (shows_for p.page (act_of x w)).last ≡ zeros 4
  unfolding shows_for
  empties x w = act_empties p.page (plan_page p e) x w

  -- the first command, with create or not
  abbrev pub First_law : Loan → World → Words → Type 0
  First_law l w words = for_lent (own_of l words w).answer ≡ false → Header p (own_of l words w) (shows_for p.page (own_of l words w).source)

  pub first_law : (l : Loan) (last : List ℕ) (w : World) → Good p w → First_law l w (words_by First p last)
  unfolding words_by
  first_law l last w g =
      by_test p.create
      (λ c.
      let h = create_page c in
      let m : mcda_of p ≤ 4 = leb-true (mcda_of p) 4 (first_mcda p.create p.caps.mcdas p.area (plan_limits p e).area_high).0 in
      let q : sends p.page p.create (mcda_of p) true 0 1 ≡ sends host_page true (mcda_of p) true 0 1 =
      ap (λ (n : ℕ). sends n p.create (mcda_of p) true 0 1) h ∙ ap (λ (b : Bool). sends host_page b (mcda_of p) true 0 1) c in
      subst (First_law l w) (sym q) (own_create_law p e w g l h (mcda_of p) m))
      (λ c.
      let q : sends p.page p.create (mcda_of p) true 0 1 ≡ sends p.page false 0 true 0 1 =
      ap (λ (b : Bool). sends p.page b (pick (b && p.caps.mcdas) p.area 0) true 0 1) c in
      subst (First_law l w) (sym q)
      (λ f.
      let k = own_header_law p e w g l true f in
      let same = k.1 ∙ retained w p.page false 0 0 1 in
      subst (λ (v : World). Header p (own_of l (sends p.page false 0 true 0 1) w) (shows_for p.page v)) (sym same) k.0))

  -- a later header
  pub closing_law : (f : Phase) → closing_by f ≡ true → (l : Loan) (last : List ℕ) (w : World) → Good p w → for_lent (own_of l (words_by f p last) w).answer ≡ false
      → Header p (own_of l (words_by f p last) w) (shows_for p.page w)
      × ((own_of l (words_by f p last) w).source ≡ w)
  unfolding words_by
  closing_law First c l last w g f = clash {t = true} refl (sym c)
  closing_law (Chunk at) c l last w g f = clash {t = true} refl (sym c)
  closing_law (Close after) c l last w g f = let k = own_header_law p e w g l true f in (k.0, k.1 ∙ retained w p.page false 0 0 1)
  closing_law Ack c l last w g f = clash {t = true} refl (sym c)
  closing_law Ended c l last w g f = clash {t = true} refl (sym c)

  unfoldable pub controller_keeps : Keeps (controller_source p.page) p
  unfolding words_by
  controller_keeps = record {
    Good = Good p;
    shows = shows_for p.page;
    area = wanted_area p;
    sound = λ w g. sound w;
    byte = byte;
    four = four;
    long = λ w g. area_long p w;
    act_good = λ x w g. act_good p x w g;
    moves = λ x w g. moves x w g;
    empties = λ x w g. empties x w;
    quiet = λ x w g. act_quiet p e x w g;
    first = λ l last w g f. (first_law l last w g f, own_good p e w g l (words_by First p last));
    closing = closing_law;
    chunk = λ at l last w g r i f. (chunk_keeps p e w g l at last r i f, chunk_long p e w g l at last r i f, chunk_right p e w g l at last r i f);
    ack = λ l last w g f. (own_header_law p e w g l false f).0;
  }
