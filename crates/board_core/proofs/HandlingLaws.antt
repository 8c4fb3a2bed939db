-- What a board makes of a packet is one delivery, or one stop, of the world.
use Rattle.std.proofs.Common.{◌≡◌, ℕ, Bool, true, false, ◌&&◌, if◌then◌else◌, List, [], ◌∷◌, ◌++◌, Option, Some, None, refl, sym, ap, subst, ◌∙◌}
use Rattle.std.specs.Prelude.{◌==◌, Ok, Err}
use Rattle.flash_trait.specs.Flash.{Operation, IsStopped}
use Rattle.flash_trait.specs.FlashCalls.{FlashState, Completes, IsCut, IsFailed, AtEachMoment}
use Rattle.flash_trait.specs.declared.flash.FlashErr.TheVariants.{Failed, Cut}
use Rattle.flash_trait.proofs.FlashContents.{same_stopped}
use Rattle.flash_trait.proofs.FlashMoments.{IsMade, made, moments_begin, moments_go_on}
use Rattle.wire_packets.specs.declared.packet.Packet.{Packet}
use Rattle.wire_packets.specs.declared.command.TheConstants.{RUN, FLASH_FAILED, NO_MEMORY}
use Rattle.wire_session.specs.declared.act.Act.{Act}
use Rattle.wire_session.specs.declared.act.Act.TheVariants.{Do, Resend, Ignore}
use Rattle.wire_session.specs.Answering.{Answering, act_on, after_take, after_keep, is_do}
use Rattle.deploy_model.specs.Board.{Parts, Outcome, Works, Fails, LacksMemory, Did, did, did_run, did_other, does, is_run, operation_asked, reply_to}
use Rattle.deploy_model.specs.Tool.{Tool}
use Rattle.deploy_model.specs.World.{World, on_act, to_board, sent, cut_off, stops}
use Rattle.deploy_model.specs.Play.{due_operation}
use Rattle.board_core.specs.declared.handled.Handled.{Handled}
use Rattle.board_core.specs.declared.handled.Handled.TheVariants.{Reply, Quiet, Off}
use Rattle.board_core.specs.Handling.{CoreState, begun, Fits, IsDone, HandlesBy, Handles}
use Rattle.board_core.specs.Worlds.{world_of, dark_world, CanBe, tells_trouble, WentWell, Leaves}
use Rattle.board_core.proofs.AnsweredLaws.{none_does}
use Rattle.board_core.proofs.OperatedLaws.{some_does}

some_same : {X : Type 0} (x y : X) → Some x ≡ Some y → x ≡ y
some_same x y e = cc

-- ---- a request that is done

-- it comes to this content, this text and this reply
record ComesTo (parts : Parts) (p r : Packet) (old new content left : List ℕ) (outcome : Outcome) : Type 0 where
  content_is : (does parts content old p outcome).content ≡ left
  text_is : (does parts content old p outcome).text ≡ new
  reply_comes : reply_to p (does parts content old p outcome).payload ≡ r

comes_to : (parts : Parts) (p r : Packet) (old new : List ℕ) (f g : FlashState) → (is : IsDone parts p r old new f g) → ComesTo parts p r old new f.content g.content is.outcome
comes_to parts p r old new f g is = record { content_is = is.content; text_is = is.text; reply_comes = is.answer }

done_is : (parts : Parts) (p r : Packet) (old new : CoreState) (content left : List ℕ) (tool : Tool) (requests replies : List Packet) (start : List ℕ) (outcome : Outcome)
    → ComesTo parts p r old.text new.text content left outcome → after_keep (after_take old.board p) r ≡ new.board
    → on_act parts (world_of old content tool requests replies start) p outcome Do ≡ world_of new left tool requests (replies ++ r ∷ []) start
done_is parts p r old new content left tool requests replies start outcome is board =
    let made = does parts content old.text p outcome in
    ap (λ (x : Packet). world_of (record { board = after_keep (after_take old.board p) x; text = made.text }) made.content tool requests (replies ++ x ∷ []) start) is.reply_comes
    ∙ ap (λ (b : Answering). world_of (record { board = b; text = made.text }) made.content tool requests (replies ++ r ∷ []) start) board
    ∙ ap (λ (t : List ℕ). world_of (record { board = new.board; text = t }) made.content tool requests (replies ++ r ∷ []) start) is.text_is
    ∙ ap (λ (c : List ℕ). world_of new c tool requests (replies ++ r ∷ []) start) is.content_is

-- its outcome is one that the content allows
can_be : (p : Packet) (o : Option Operation) (f g : FlashState) (outcome : Outcome) → operation_asked p ≡ o → Fits o p.command f g outcome → CanBe p f.content outcome
can_be p o f g Works asked fits = tt
can_be p None f g (Fails left) asked fits = absurd fits.0
can_be p (Some op) f g (Fails left) asked fits = λ other is.
    subst (λ (x : Operation). IsStopped x f.content left) (some_same op other (sym asked ∙ is)) (subst (λ (c : List ℕ). IsStopped op f.content c) fits.1 fits.0.content)
can_be p o f g LacksMemory asked fits = tt

-- where the reply tells no trouble, it is that of an outcome that works
by_run : (p : Packet) (works lacks plain : Did) (b : Bool) → tells_trouble (reply_to p lacks.payload) ≡ true → tells_trouble (reply_to p (if b then lacks else plain).payload) ≡ false
    → (if b then works else plain) ≡ (if b then lacks else plain)
by_run p works lacks plain true trouble quiet = absurd (cc)
by_run p works lacks plain false trouble quiet = refl

as_works : (parts : Parts) (p : Packet) (text : List ℕ) (f g : FlashState) (o : Option Operation) (outcome : Outcome) → operation_asked p ≡ o → Fits o p.command f g outcome
    → tells_trouble (reply_to p (does parts f.content text p outcome).payload) ≡ false
    → (does parts f.content text p Works ≡ does parts f.content text p outcome) × WentWell o f g
as_works parts p text f g None Works asked fits quiet = (refl, fits.1)
as_works parts p text f g (Some op) Works asked fits quiet = (refl, fits)
as_works parts p text f g None (Fails left) asked fits quiet = absurd fits.0
as_works parts p text f g (Some op) (Fails left) asked fits quiet =
    let e = ap (λ (d : Did). tells_trouble (reply_to p d.payload)) (some_does parts f.content text p (Fails left) op asked) in
    let loud : tells_trouble (reply_to p (FLASH_FAILED ∷ [])) ≡ true = refl in
    absurd (true_false (sym loud ∙ sym e ∙ quiet))
  where
    true_false : true ≡ false → ⊥
    true_false x = cc
as_works parts p text f g None LacksMemory asked fits quiet =
    let works = none_does parts f.content text p Works asked in
    let lacks = none_does parts f.content text p LacksMemory asked in (
      works ∙ by_run p (did_run parts f.content text p.payload.items Works) (did f.content text (NO_MEMORY ∷ [])) _ ((p.command == RUN) && is_run p.payload.items) refl
          (sym (ap (λ (d : Did). tells_trouble (reply_to p d.payload)) lacks) ∙ quiet) ∙ sym lacks,
      fits.1,
    )
as_works parts p text f g (Some op) LacksMemory asked fits quiet = absurd fits

works_done : (parts : Parts) (p r : Packet) (old new : List ℕ) (f g : FlashState) → IsDone parts p r old new f g → tells_trouble r ≡ false
    → ComesTo parts p r old new f.content g.content Works × WentWell (operation_asked p) f g
works_done parts p r old new f g is quiet =
    let went = as_works parts p old f g (operation_asked p) is.outcome refl is.fits (ap tells_trouble is.answer ∙ quiet) in (
      record {
        content_is = ap (λ (d : Did). d.content) went.0 ∙ is.content;
        text_is = ap (λ (d : Did). d.text) went.0 ∙ is.text;
        reply_comes = ap (λ (d : Did). reply_to p d.payload) went.0 ∙ is.answer;
      },
      went.1,
    )

-- ---- the same reply again, and nothing

again_is : (parts : Parts) (p r : Packet) (old new : CoreState) (f g : FlashState) (tool : Tool) (requests replies : List Packet) (start : List ℕ)
    → old.board.kept ≡ Some r → old ≡ new → f ≡ g
    → on_act parts (world_of old f.content tool requests replies start) p Works Resend ≡ world_of new g.content tool requests (replies ++ r ∷ []) start
again_is parts p r old new f g tool requests replies start kept same still =
    ap (λ (k : Option Packet). world_of old f.content tool requests (sent replies k) start) kept
    ∙ ap (λ (c : CoreState). world_of c f.content tool requests (replies ++ r ∷ []) start) same
    ∙ ap (λ (s : FlashState). world_of new s.content tool requests (replies ++ r ∷ []) start) still

-- ---- deliveries

pub reply_is : (parts : Parts) (p r : Packet) (old new : CoreState) (f g : FlashState) (tool : Tool) (requests replies : List Packet) (start : List ℕ) → Handles parts p old new f g (Reply r)
    → (outcome : Outcome) × CanBe p f.content outcome × (to_board parts (world_of old f.content tool requests replies start) outcome (Some p) ≡ world_of new g.content tool requests (replies ++ r ∷ []) start)
reply_is parts p r old new f g tool requests replies start handles = by (act_on old.board p) handles
  where
    by : (a : Act) → HandlesBy a parts p old new f g (Reply r)
        → (outcome : Outcome) × CanBe p f.content outcome × (on_act parts (world_of old f.content tool requests replies start) p outcome a ≡ world_of new g.content tool requests (replies ++ r ∷ []) start)
    by Do is = (
      is.0.outcome,
      can_be p (operation_asked p) f g is.0.outcome refl is.0.fits,
      done_is parts p r old new f.content g.content tool requests replies start is.0.outcome (comes_to parts p r old.text new.text f g is.0) is.1,
    )
    by Resend is = (Works, tt, again_is parts p r old new f g tool requests replies start is.0 is.1 is.2)
    by Ignore is = absurd is

-- where the reply tells no trouble, the delivery is one that works
pub works_is : (parts : Parts) (p r : Packet) (old new : CoreState) (f g : FlashState) (tool : Tool) (requests replies : List Packet) (start : List ℕ) → Handles parts p old new f g (Reply r) → tells_trouble r ≡ false
    → (to_board parts (world_of old f.content tool requests replies start) Works (Some p) ≡ world_of new g.content tool requests (replies ++ r ∷ []) start)
    × WentWell (due_operation (world_of old f.content tool requests replies start) p) f g
works_is parts p r old new f g tool requests replies start handles quiet = by (act_on old.board p) handles
  where
    by : (a : Act) → HandlesBy a parts p old new f g (Reply r)
        → (on_act parts (world_of old f.content tool requests replies start) p Works a ≡ world_of new g.content tool requests (replies ++ r ∷ []) start)
        × WentWell (if is_do a then operation_asked p else None) f g
    by Do is =
        let went = works_done parts p r old.text new.text f g is.0 quiet in
        (done_is parts p r old new f.content g.content tool requests replies start Works went.0 is.1, went.1)
    by Resend is = (again_is parts p r old new f g tool requests replies start is.0 is.1 is.2, sym is.2)
    by Ignore is = absurd is

pub quiet_is : (parts : Parts) (p : Packet) (old new : CoreState) (f g : FlashState) (tool : Tool) (requests replies : List Packet) (start : List ℕ) → Handles parts p old new f g Quiet
    → (to_board parts (world_of old f.content tool requests replies start) Works (Some p) ≡ world_of new g.content tool requests replies start)
    × WentWell (due_operation (world_of old f.content tool requests replies start) p) f g
quiet_is parts p old new f g tool requests replies start handles = by (act_on old.board p) handles
  where
    by : (a : Act) → HandlesBy a parts p old new f g Quiet
        → (on_act parts (world_of old f.content tool requests replies start) p Works a ≡ world_of new g.content tool requests replies start) × WentWell (if is_do a then operation_asked p else None) f g
    by Do is = absurd is
    by Resend is = absurd is
    by Ignore is = (
      ap (λ (c : CoreState). world_of c f.content tool requests replies start) is.0 ∙ ap (λ (s : FlashState). world_of new s.content tool requests replies start) is.1,
      sym is.1,
    )

-- ---- stops

pub stop_is : (parts : Parts) (p : Packet) (old new : CoreState) (f g : FlashState) (tool : Tool) (requests replies : List Packet) (start : List ℕ) → Handles parts p old new f g Off
    → (op : Operation) × (due_operation (world_of old f.content tool requests replies start) p ≡ Some op) × IsCut op f g
    × (stops (world_of old f.content tool requests replies start) g.content (Some p) ≡ dark_world g.content tool requests replies start) × (new ≡ begun)
stop_is parts p old new f g tool requests replies start handles = by (act_on old.board p) handles
  where
    by : (a : Act) → HandlesBy a parts p old new f g Off
        → (op : Operation) × ((if is_do a then operation_asked p else None) ≡ Some op) × IsCut op f g
        × ((if is_do a then cut_off (world_of old f.content tool requests replies start) g.content (operation_asked p) else world_of old f.content tool requests replies start) ≡ dark_world g.content tool requests replies start) × (new ≡ begun)
    by Do is = (is.0.0, is.0.1, is.0.2, ap (λ (o : Option Operation). cut_off (world_of old f.content tool requests replies start) g.content o) is.0.1, is.1)
    by Resend is = absurd is
    by Ignore is = absurd is

-- ---- moments

made_leaves : (op : Operation) (f g : FlashState) → IsMade op f g → AtEachMoment f g (IsStopped op f.content)
made_leaves op f g made = moments_go_on (IsStopped op f.content) op f f g (moments_begin (IsStopped op f.content) f (same_stopped op f.content)) made (λ left stopped. stopped)

done_leaves : (o : Option Operation) (command : ℕ) (f g : FlashState) (outcome : Outcome) → Fits o command f g outcome → Leaves o f g
done_leaves None command f g outcome fits = fits.1
done_leaves (Some op) command f g Works fits = made_leaves op f g (made op f g (Ok tt) fits (λ e. absurd (cc)) (λ e. absurd (cc)))
done_leaves (Some op) command f g (Fails left) fits = made_leaves op f g (made op f g (Err Failed) tt (λ e. absurd (cc)) (λ e. fits.0))
done_leaves (Some op) command f g LacksMemory fits = absurd fits

cut_leaves : (o : Option Operation) (op : Operation) (f g : FlashState) → o ≡ Some op → IsCut op f g → Leaves o f g
cut_leaves o op f g is cut =
    subst (λ (x : Option Operation). Leaves x f g) (sym is) (made_leaves op f g (made op f g (Err Cut) tt (λ e. cut) (λ e. absurd (cc))))

pub handled_leaves : (parts : Parts) (p : Packet) (old new : CoreState) (f g : FlashState) (h : Handled) (tool : Tool) (requests replies : List Packet) (start : List ℕ) → Handles parts p old new f g h
    → Leaves (due_operation (world_of old f.content tool requests replies start) p) f g
handled_leaves parts p old new f g h tool requests replies start handles = by (act_on old.board p) h handles
  where
    by : (a : Act) (h : Handled) → HandlesBy a parts p old new f g h → Leaves (if is_do a then operation_asked p else None) f g
    by Do (Reply r) is = done_leaves (operation_asked p) p.command f g is.0.outcome is.0.fits
    by Do Quiet is = absurd is
    by Do Off is = cut_leaves (operation_asked p) is.0.0 f g is.0.1 is.0.2
    by Resend (Reply r) is = sym is.2
    by Resend Quiet is = absurd is
    by Resend Off is = absurd is
    by Ignore (Reply r) is = absurd is
    by Ignore Quiet is = sym is.1
    by Ignore Off is = absurd is
