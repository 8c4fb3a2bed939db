-- What requests for no operation come to.
use Rattle.std.proofs.Common.{◌≡◌, ℕ, suc, ◌+◌, Bool, true, false, ◌&&◌, if◌then◌else◌, List, [], ◌∷◌, Option, Some, None, drop, refl, sym, ap, subst, ◌∙◌, arith, get_or-drop}
use Rattle.std.specs.Prelude.{slice_index, ◌==◌}
use Rattle.flash_trait.specs.Flash.{Operation}
use Rattle.flash_trait.specs.FlashCalls.{FlashState}
use Rattle.wire_packets.specs.declared.packet.Packet.{Packet}
use Rattle.wire_packets.specs.declared.command.TheConstants.{RUN}
use Rattle.deploy_model.specs.Banks.{holds, bank_marker}
use Rattle.deploy_model.specs.Board.{Parts, Outcome, Works, Fails, LacksMemory, Yields, Did, did, did_run, did_other, did_asked, does, is_run, operation_asked, reply_to}
use Rattle.board_core.specs.Ends.{Ends, parts_with}
use Rattle.board_core.specs.Plain.{plain_payload}
use Rattle.board_core.specs.Operated.{Answers}
use Rattle.board_core.specs.Handling.{MayBe, Fits, HasRun, IsAnswered, IsDone}

-- ---- markers

holds_behind : (xs : List ℕ) (n at : ℕ) (c : List ℕ) → holds xs at (drop n c) ≡ holds xs (n + at) c
holds_behind [] n at c = refl
holds_behind (x ∷ xs) n at c =
    let more : holds xs (suc at) (drop n c) ≡ holds xs (suc (n + at)) c = holds_behind xs n (suc at) c ∙ ap (λ k. holds xs k c) (omega arith) in
    ap (λ v. (v == x) && holds xs (suc at) (drop n c)) (get_or-drop n c at 0) ∙ ap (λ b. (slice_index c (n + at) == x) && b) more

pub marker_behind : (n : ℕ) (c : List ℕ) → holds bank_marker 0 (drop n c) ≡ holds bank_marker n c
marker_behind n c = holds_behind bank_marker n 0 c ∙ ap (λ k. holds bank_marker k c) (omega arith)

-- ---- requests for no operation

pub ran : (ends : Ends) (p : Packet) (content old new payload : List ℕ) → ((p.command == RUN) && is_run p.payload.items) ≡ true → p.command ≡ RUN
    → HasRun (parts_with ends) p.payload.items content old new payload → IsAnswered (parts_with ends) p content old new payload
unfolding plain_payload
ran ends p content old new payload test command run =
    record {
      outcome = run.0;
      may = subst (λ c. MayBe c run.0) (sym command) run.1;
      did = ap (λ (b : Bool). if b then did_run (parts_with ends) content old p.payload.items run.0 else did content old (plain_payload content old p.command p.payload.items)) test ∙ run.2;
    }

pub plainly : (ends : Ends) (p : Packet) (content old payload : List ℕ) → ((p.command == RUN) && is_run p.payload.items) ≡ false
    → payload ≡ plain_payload content old p.command p.payload.items → IsAnswered (parts_with ends) p content old old payload
unfolding plain_payload
plainly ends p content old payload test is =
    record {
      outcome = Works;
      may = tt;
      did = ap (λ (b : Bool). if b then did_run (parts_with ends) content old p.payload.items Works else did content old (plain_payload content old p.command p.payload.items)) test ∙ ap (did content old) (sym is);
    }

-- ---- requests that are done

pub none_does : (parts : Parts) (content text : List ℕ) (p : Packet) (outcome : Outcome) → operation_asked p ≡ None → does parts content text p outcome ≡ did_other parts content text p.command p.payload.items outcome
unfolding does
none_does parts content text p outcome is = ap (λ (o : Option Operation). did_asked parts content text p outcome o) is

pub answered_done : (parts : Parts) (p r : Packet) (old new payload : List ℕ) (f g : FlashState) → operation_asked p ≡ None → g ≡ f → IsAnswered parts p f.content old new payload → r ≡ reply_to p payload
    → IsDone parts p r old new f g
answered_done parts p r old new payload f g asked same a is =
    let all : does parts f.content old p a.outcome ≡ did f.content new payload = none_does parts f.content old p a.outcome asked ∙ a.did in
    record {
      outcome = a.outcome;
      fits = subst (λ (o : Option Operation). Fits o p.command f g a.outcome) (sym asked) (a.may, same);
      content = ap (λ (d : Did). d.content) all ∙ ap (λ (s : FlashState). s.content) (sym same);
      text = ap (λ (d : Did). d.text) all;
      answer = ap (λ (d : Did). reply_to p d.payload) all ∙ sym is;
    }

pub operated_done : (parts : Parts) (p r : Packet) (text : List ℕ) (f g : FlashState) → Answers p r f g → IsDone parts p r text text f g
operated_done parts p r text f g a =
    record {
      outcome = a.outcome;
      fits = subst (λ (o : Option Operation). Fits o p.command f g a.outcome) (sym a.asked) a.yields;
      content = sym (a.left parts text);
      text = sym (a.kept parts text);
      answer = sym (a.answer parts text);
    }
