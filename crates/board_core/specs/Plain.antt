-- The replies to requests that change nothing on the board.
use Rattle.std.specs.Prelude.{ℕ, ◌==◌, ◌||◌, if◌then◌else◌, List, [], ◌∷◌, ◌+◌}
use Rattle.wire_packets.specs.declared.command.TheConstants.{OPEN, READ, FETCH, CLOSE, BANKS, NO_REQUEST}
use Rattle.wire_packets.specs.declared.payload.TheConstants.{FIRST_MARK, SECOND_MARK}
use Rattle.wire_session.specs.Replies.{flash_shape}
use Rattle.deploy_model.specs.Banks.{base, holds, image_marker, bank_marker}
use Rattle.deploy_model.specs.Deployment.{banks, banks_bytes}
use Rattle.deploy_model.specs.Board.{piece_of, if_empty}
use Rattle.boot_scan.specs.Images.{FORMAT}

-- the payload of the reply to a request that neither operates the flash nor runs it
unfoldable pub plain_payload : List ℕ → List ℕ → ℕ → List ℕ → List ℕ
plain_payload content text command payload =
    if command == OPEN then if_empty payload flash_shape
    else (if command == BANKS then if_empty payload (banks_bytes (banks FORMAT content))
    else (if command == READ then piece_of payload content
    else (if command == FETCH then piece_of payload text
    else (if command == CLOSE then if_empty payload [] else NO_REQUEST ∷ []))))

-- which markers stand
abbrev pub marks : List ℕ → ℕ
marks content =
    (if holds image_marker 0 content || holds bank_marker 0 content then FIRST_MARK else 0) + (if holds bank_marker (base 1) content then SECOND_MARK else 0)
