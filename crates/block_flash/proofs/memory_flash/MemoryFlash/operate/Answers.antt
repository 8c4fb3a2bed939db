use Rattle.std.proofs.Common.{◌≡◌, ℕ, List, None, inl, refl, sym, ap, ◌∙◌, subst, length, arith}
use Rattle.std.specs.Vec.{with_items}
use Rattle.std.specs.Prelude.{Vec, Option, Some, ◌≤◌, nat_lt, false}
use Rattle.std.proofs.lemmas.Bool.{le-ltb}
use Rattle.std.specs.declared.alloc.Global.{Global}
use Rattle.std.proofs.lemmas.List.{with_items_is}
use Rattle.flash_trait.specs.Flash.{Operation, IsStopped, AreBytes, after, cut}
use Rattle.flash_trait.specs.FlashCalls.{counted}
use Rattle.flash_trait.specs.declared.flash.Stop.{Stop}
use Rattle.flash_trait.proofs.FlashContents.{after_stopped, cut_stopped}
use Rattle.block_flash.specs.Change.{operation_of}
use Rattle.block_flash.specs.History.{Keeps}
use Rattle.block_flash.proofs.Undone.{history-keeps}
use Rattle.block_flash.proofs.memory_flash.MemoryFlash.operate.Goals as goal

-- the items of a vector after a write that keeps their number
written : (v : Vec ℕ Global) (op : Operation) (old new result : List ℕ) → old ≡ v.items → length old ≡ v.len → new ≡ result → IsStopped op old result → (with_items v new).items ≡ new
written v op old new result is len new-is stopped = with_items_is v new (ap length new-is ∙ stopped.size ∙ len)

-- a write that keeps their number keeps the size, and that the items are bytes
kept_size : (v : Vec ℕ Global) (old new : List ℕ) → old ≡ v.items → length old ≡ v.len → length new ≡ length old → length v.items ≡ 262144 → length (with_items v new).items ≡ 262144
kept_size v old new is len same size = ap length (with_items_is v new (same ∙ len)) ∙ same ∙ ap length is ∙ size

kept_bytes : (v : Vec ℕ Global) (old new : List ℕ) → length old ≡ v.len → length new ≡ length old → AreBytes new → AreBytes (with_items v new).items
kept_bytes v old new len same bytes = subst (λ (xs : List ℕ). AreBytes xs) (sym (with_items_is v new (same ∙ len))) bytes

-- a stop that came is spent
spent : (armed : Option Stop) (stop : Stop) → armed ≡ Some stop → stop.operation ≤ 1 → counted armed ≡ None
spent armed stop is last = ap counted is ∙ (let test : nat_lt 1 stop.operation ≡ false = le-ltb 1 stop.operation last in rw test refl)

pub returns-in-None-clause-ok : goal.returns-in-None-clause-ok
returns-in-None-clause-ok c =
    let op = operation_of c.args.change.now in
    let old = c.args.self.now in
    let before : c.deref_mut-in-None.result.now ≡ old.content.items = c.deref_mut-in-None.ensures.value in
    let whole = c.make_whole.ensures.content ∙ ap (after op) before in
    let content_is = written old.content op c.deref_mut-in-None.result.now c.make_whole.new.content (after op c.deref_mut-in-None.result.now) before c.deref_mut-in-None.ensures.len c.make_whole.ensures.content (after_stopped op c.deref_mut-in-None.result.now) ∙ whole in
    record {
      content = content_is;
      not_due = c.in-None.ensures.due;
      armed = c.count_operation-stop.ensures.armed;
      on = refl;
      faults = refl;
      stops = refl;
      telling = refl;
      log = λ _.
          history-keeps op old.log.items c.keep.new.log.items old.content.items _
          (subst (λ (xs : List ℕ). Keeps op xs old.log.items c.keep.new.log.items) c.deref.ensures.value c.keep.ensures.kept)
          (subst (λ (xs : List ℕ). IsStopped op old.content.items xs) (sym content_is) (after_stopped op old.content.items));
      schedule = ap Some (c.count-fails.ensures.taken 1);
    }

pub returns-in-Some-clause-cut : goal.returns-in-Some-clause-cut
returns-in-Some-clause-cut c _ =
    let op = operation_of c.args.change.now in
    let old = c.args.self.now in
    let due = c.in-Some.ensures.due in
    let mask_is : c.as_slice-in-Some.result.now ≡ due.0.mask = c.as_slice-in-Some.ensures ∙ due.3 in
    let before : c.deref_mut-in-Some.result.now ≡ old.content.items = c.deref_mut-in-Some.ensures.value in
    let made = c.make-in-Some.ensures.content ∙ ap (cut op c.as_slice-in-Some.result.now) before ∙ ap (λ (m : List ℕ). cut op m old.content.items) mask_is in
    let content_is = written old.content op c.deref_mut-in-Some.result.now c.make-in-Some.new.content (cut op c.as_slice-in-Some.result.now c.deref_mut-in-Some.result.now) before c.deref_mut-in-Some.ensures.len c.make-in-Some.ensures.content (cut_stopped op c.as_slice-in-Some.result.now c.deref_mut-in-Some.result.now) ∙ made in
    record {
      stopped = (due.0, due.1, due.2, content_is);
      armed = c.count_operation-stop.ensures.armed ∙ spent old.armed due.0 due.1 due.2;
      off = refl;
      faults = refl;
      stops = omega arith;
      telling = refl;
      log = λ _.
          history-keeps op old.log.items c.keep.new.log.items old.content.items _
          (subst (λ (xs : List ℕ). Keeps op xs old.log.items c.keep.new.log.items) c.deref.ensures.value c.keep.ensures.kept)
          (subst (λ (xs : List ℕ). IsStopped op old.content.items xs) (sym content_is) (cut_stopped op due.0.mask old.content.items));
      schedule = ap Some (c.count-fails.ensures.taken 1);
    }

pub returns-then-fails-clause-failed : goal.returns-then-fails-clause-failed
returns-then-fails-clause-failed c _ =
    let op = operation_of c.args.change.now in
    let old = c.args.self.now in
    let mask = c.as_slice.result.now in
    let before : c.deref_mut.result.now ≡ old.content.items = c.deref_mut.ensures.value in
    let made = c.make.ensures.content ∙ ap (cut op mask) before in
    let content_is = written old.content op c.deref_mut.result.now c.make.new.content (cut op mask c.deref_mut.result.now) before c.deref_mut.ensures.len c.make.ensures.content (cut_stopped op mask c.deref_mut.result.now) ∙ made in
    record {
      faults = omega arith;
      content = subst (λ (xs : List ℕ). IsStopped op old.content.items xs) (sym content_is) (cut_stopped op mask old.content.items);
      armed = c.count_operation-stop.ensures.armed;
      on = refl;
      stops = refl;
      telling = refl;
      log = inl (λ _.
          history-keeps op old.log.items c.keep.new.log.items old.content.items _
          (subst (λ (xs : List ℕ). Keeps op xs old.log.items c.keep.new.log.items) c.deref.ensures.value c.keep.ensures.kept)
          (subst (λ (xs : List ℕ). IsStopped op old.content.items xs) (sym content_is) (cut_stopped op mask old.content.items)));
      schedule = ap Some (c.count-fails.ensures.taken 1);
    }

pub invariant_of-self-then-fails-clause-sized : goal.invariant_of-self-then-fails-clause-sized
invariant_of-self-then-fails-clause-sized c = kept_size c.args.self.now.content c.deref_mut.result.now c.make.new.content c.deref_mut.ensures.value c.deref_mut.ensures.len c.make.auto.content c.args.self.now.sized

pub invariant_of-self-then-fails-clause-bytes : goal.invariant_of-self-then-fails-clause-bytes
invariant_of-self-then-fails-clause-bytes c = kept_bytes c.args.self.now.content c.deref_mut.result.now c.make.new.content c.deref_mut.ensures.len c.make.auto.content c.make.ensures.bytes

pub invariant_of-self-in-None-clause-sized : goal.invariant_of-self-in-None-clause-sized
invariant_of-self-in-None-clause-sized c = kept_size c.args.self.now.content c.deref_mut-in-None.result.now c.make_whole.new.content c.deref_mut-in-None.ensures.value c.deref_mut-in-None.ensures.len c.make_whole.auto.content c.args.self.now.sized

pub invariant_of-self-in-None-clause-bytes : goal.invariant_of-self-in-None-clause-bytes
invariant_of-self-in-None-clause-bytes c = kept_bytes c.args.self.now.content c.deref_mut-in-None.result.now c.make_whole.new.content c.deref_mut-in-None.ensures.len c.make_whole.auto.content c.make_whole.ensures.bytes

pub invariant_of-self-in-Some-clause-sized : goal.invariant_of-self-in-Some-clause-sized
invariant_of-self-in-Some-clause-sized c = kept_size c.args.self.now.content c.deref_mut-in-Some.result.now c.make-in-Some.new.content c.deref_mut-in-Some.ensures.value c.deref_mut-in-Some.ensures.len c.make-in-Some.auto.content c.args.self.now.sized

pub invariant_of-self-in-Some-clause-bytes : goal.invariant_of-self-in-Some-clause-bytes
invariant_of-self-in-Some-clause-bytes c = kept_bytes c.args.self.now.content c.deref_mut-in-Some.result.now c.make-in-Some.new.content c.deref_mut-in-Some.ensures.len c.make-in-Some.auto.content c.make-in-Some.ensures.bytes

pub returns-then-fails-clause-failing : goal.returns-then-fails-clause-failing
returns-then-fails-clause-failing c _ =
    let op = operation_of c.args.change.now in
    let old = c.args.self.now in
    let mask = c.as_slice.result.now in
    let before : c.deref_mut.result.now ≡ old.content.items = c.deref_mut.ensures.value in
    let made = c.make.ensures.content ∙ ap (cut op mask) before in
    let content_is = written old.content op c.deref_mut.result.now c.make.new.content (cut op mask c.deref_mut.result.now) before c.deref_mut.ensures.len c.make.ensures.content (cut_stopped op mask c.deref_mut.result.now) ∙ made in
    record {
      inside = λ _. (
        content_is ∙ ap (λ (m : List ℕ). cut op m old.content.items) c.as_slice.ensures,
        λ _.
            history-keeps op old.log.items c.keep.new.log.items old.content.items _
            (subst (λ (xs : List ℕ). Keeps op xs old.log.items c.keep.new.log.items) c.deref.ensures.value c.keep.ensures.kept)
            (subst (λ (xs : List ℕ). IsStopped op old.content.items xs) (sym content_is) (cut_stopped op mask old.content.items)),
      );
      past = λ none. absurd (let some = c.if-self-eq0.false in some none);
    }
