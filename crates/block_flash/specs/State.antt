-- What is known of a flash in memory.
use Rattle.std.specs.Prelude.{ℕ, true, List, Some}
use Rattle.flash_trait.specs.FlashCalls.{FlashState}
use Rattle.outside_in_memory.specs.Schedules.{schedule_of}
use Rattle.block_flash.specs.declared.memory_flash.MemoryFlash.{MemoryFlash}
use Rattle.block_flash.specs.History.{history}

abbrev pub state_of : MemoryFlash → FlashState
state_of f =
    record {
      content = f.content.items;
      on = f.on;
      armed = f.armed;
      faults = f.faults;
      stops = f.stops;
      tells = true;
      log = history f.log.items f.content.items;
      schedule = Some (schedule_of f.calls f.spare);
    }

-- the mask by which an operation inside the room leaves the content where it is due to fail
abbrev pub fail_mask_of : MemoryFlash → List ℕ
fail_mask_of f = f.fail_mask
