-- What a board makes of a packet, by what its answering end does with it.
use Rattle.std.specs.Prelude.{◌≡◌, ℕ, true, false, List, [], Option, Some, None, Result, Ok, Err}
use Rattle.flash_trait.specs.Flash.{Operation}
use Rattle.flash_trait.specs.FlashCalls.{FlashState, IsCut}
use Rattle.wire_packets.specs.declared.packet.Packet.{Packet}
use Rattle.wire_packets.specs.declared.command.TheConstants.{RUN}
use Rattle.wire_session.specs.declared.act.Act.{Act}
use Rattle.wire_session.specs.declared.act.Act.TheVariants.{Do, Resend, Ignore}
use Rattle.wire_session.specs.Answering.{Answering, nothing_done, act_on, after_take, after_keep}
use Rattle.deploy_model.specs.Board.{Parts, Outcome, Works, Fails, LacksMemory, Yields, operation_asked, did, did_run, did_other, does, reply_to}
use Rattle.board_core.specs.declared.operating.PowerOff.{PowerOff}
use Rattle.board_core.specs.declared.handled.Handled.{Handled}
use Rattle.board_core.specs.declared.handled.Handled.TheVariants.{Reply, Quiet, Off}

-- what a board holds in a session
pub record CoreState : Type 0 where
  pub board : Answering
  pub text : List ℕ

-- a session that begins
abbrev pub begun : CoreState
begun = record { board = nothing_done; text = [] }

-- a request for no operation can't fail, and only a run may lack memory
abbrev pub MayBe : ℕ → Outcome → Type 0
MayBe command Works = Unit {0}
MayBe command (Fails left) = ⊥
MayBe command LacksMemory = command ≡ RUN

-- a request for no operation came to this text and the payload of this reply
pub record IsAnswered (parts : Parts) (p : Packet) (content old new payload : List ℕ) : Type 0 where
  pub outcome : Outcome
  pub may : MayBe p.command outcome
  pub did : did_other parts content old p.command p.payload.items outcome ≡ did content new payload

-- a run with this payload came to this text and the payload of this reply
abbrev pub HasRun : Parts → List ℕ → List ℕ → List ℕ → List ℕ → List ℕ → Type 0
HasRun parts asked content old new payload = (outcome : Outcome) × MayBe RUN outcome × (did_run parts content old asked outcome ≡ did content new payload)

-- an outcome by the flash, which a request for no operation leaves
abbrev pub Fits : Option Operation → ℕ → FlashState → FlashState → Outcome → Type 0
Fits (Some op) command old new outcome = Yields op old new outcome
Fits None command old new outcome = MayBe command outcome × (new ≡ old)

-- a request was done: its reply, the text and the flash are those of the model for an outcome
pub record IsDone (parts : Parts) (p r : Packet) (old new : List ℕ) (f g : FlashState) : Type 0 where
  pub outcome : Outcome
  pub fits : Fits (operation_asked p) p.command f g outcome
  pub content : (does parts f.content old p outcome).content ≡ g.content
  pub text : (does parts f.content old p outcome).text ≡ new
  pub answer : reply_to p (does parts f.content old p outcome).payload ≡ r

-- the power stopped inside the operation that it asks for
abbrev pub IsStop : Packet → FlashState → FlashState → Type 0
IsStop p f g = (op : Operation) × (operation_asked p ≡ Some op) × IsCut op f g

abbrev pub Does : Parts → Packet → List ℕ → List ℕ → FlashState → FlashState → Result Packet PowerOff → Type 0
Does parts p old new f g (Ok r) = IsDone parts p r old new f g
Does parts p old new f g (Err off) = IsStop p f g

abbrev pub HandlesBy : Act → Parts → Packet → CoreState → CoreState → FlashState → FlashState → Handled → Type 0
HandlesBy Do parts p old new f g (Reply r) = IsDone parts p r old.text new.text f g × (after_keep (after_take old.board p) r ≡ new.board)
HandlesBy Do parts p old new f g Quiet = ⊥
HandlesBy Do parts p old new f g Off = IsStop p f g × (new ≡ begun)
HandlesBy Resend parts p old new f g (Reply r) = (old.board.kept ≡ Some r) × (old ≡ new) × (f ≡ g)
HandlesBy Resend parts p old new f g Quiet = ⊥
HandlesBy Resend parts p old new f g Off = ⊥
HandlesBy Ignore parts p old new f g (Reply r) = ⊥
HandlesBy Ignore parts p old new f g Quiet = (old ≡ new) × (f ≡ g)
HandlesBy Ignore parts p old new f g Off = ⊥

-- the next request is done, the last one gets its reply again, and nothing comes of any other packet; where the power
-- stops, the next session begins anew
abbrev pub Handles : Parts → Packet → CoreState → CoreState → FlashState → FlashState → Handled → Type 0
Handles parts p old new f g h = HandlesBy (act_on old.board p) parts p old new f g h
