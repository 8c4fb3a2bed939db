-- An operation of the flash is what the model says of its outcome.
use Rattle.std.proofs.Common.{◌≡◌, ℕ, List, [], ◌∷◌, Option, Some, refl, sym, ap, ◌∙◌}
use Rattle.flash_trait.specs.Flash.{Operation}
use Rattle.flash_trait.specs.FlashCalls.{FlashState, Completes, IsFailed}
use Rattle.wire_packets.specs.declared.packet.Packet.{Packet}
use Rattle.wire_packets.specs.declared.command.TheConstants.{DONE, FLASH_FAILED}
use Rattle.deploy_model.specs.Board.{Parts, Outcome, Works, Fails, Did, operation_asked, does, did_asked, did_operation, reply_to}
use Rattle.board_core.specs.Operated.{Answers}

pub some_does : (parts : Parts) (content text : List ℕ) (p : Packet) (outcome : Outcome) (op : Operation) → operation_asked p ≡ Some op → does parts content text p outcome ≡ did_operation op content text outcome
unfolding does
some_does parts content text p outcome op is = ap (λ (o : Option Operation). did_asked parts content text p outcome o) is

pub whole_answers : (p reply : Packet) (op : Operation) (old new : FlashState) → operation_asked p ≡ Some op → Completes op old new → reply ≡ reply_to p (DONE ∷ []) → Answers p reply old new
whole_answers p reply op old new asked whole is =
    record {
      operation = op;
      asked = asked;
      outcome = Works;
      yields = whole;
      answer = λ parts text. is ∙ sym (ap (λ (d : Did). reply_to p d.payload) (some_does parts old.content text p Works op asked));
      kept = λ parts text. sym (ap (λ (d : Did). d.text) (some_does parts old.content text p Works op asked));
      left = λ parts text. whole.content ∙ sym (ap (λ (d : Did). d.content) (some_does parts old.content text p Works op asked));
    }

pub failed_answers : (p reply : Packet) (op : Operation) (old new : FlashState) → operation_asked p ≡ Some op → IsFailed op old new → reply ≡ reply_to p (FLASH_FAILED ∷ []) → Answers p reply old new
failed_answers p reply op old new asked failed is =
    record {
      operation = op;
      asked = asked;
      outcome = Fails new.content;
      yields = (failed, refl);
      answer = λ parts text. is ∙ sym (ap (λ (d : Did). reply_to p d.payload) (some_does parts old.content text p (Fails new.content) op asked));
      kept = λ parts text. sym (ap (λ (d : Did). d.text) (some_does parts old.content text p (Fails new.content) op asked));
      left = λ parts text. sym (ap (λ (d : Did). d.content) (some_does parts old.content text p (Fails new.content) op asked));
    }
