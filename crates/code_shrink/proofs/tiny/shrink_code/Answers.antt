use Rattle.std.proofs.Common.{subst, sym, ap, ◌∙◌, arith, rules}
use Rattle.std.specs.Prelude.{ℤ, Some, FitsSigned}
use Rattle.std.specs.Int.{w64}
use Rattle.std.proofs.lemmas.Int.{to_z-of_z}
use Rattle.code_shrink.specs.Shrunk.{pieces_of}
use Rattle.code_shrink.specs.Starts.{Shortened, Pairs}
use Rattle.code_shrink.proofs.Walking.{whole_of}
use Rattle.code_shrink.proofs.Whole.{rise, paired, near, far_is, writes, bytes_are}
use Rattle.code_shrink.proofs.tiny.shrink_code.Goals as goal

pub first_far-requires-clause-rise : goal.first_far-requires-clause-rise
first_far-requires-clause-rise g c =
    rise c.args.code.now (λ k. (c.type_inv.code k).fits) c.requires.sound c.as_slice.result.now (c.as_slice.ensures.value ∙ c.in_ok-starts.ensures {u = tt})

pub first_far-requires-clause-whole : goal.first_far-requires-clause-whole
first_far-requires-clause-whole g c = whole_of c.args.code.now c.requires.sound.whole

pub first_far-requires-clause-near : goal.first_far-requires-clause-near
first_far-requires-clause-near g c =
    near c.args.code.now (λ k. (c.type_inv.code k).fits) c.requires.sound c.as_slice.result.now (c.as_slice.ensures.value ∙ c.in_ok-starts.ensures {u = tt}) c.requires.small

pub returns-in-Some-clause-refused : goal.returns-in-Some-clause-refused
returns-in-Some-clause-refused g c =
    let fd : FitsSigned w64 c.in-Some.distance = search rules in
    sym (far_is c.args.code.now (λ k. (c.type_inv.code k).fits) c.requires.sound c.as_slice.result.now (c.as_slice.ensures.value ∙ c.in_ok-starts.ensures {u = tt}))
    ∙ sym c.first_far.ensures ∙ c.in-Some.is ∙ ap (λ (z : ℤ). Some z) (sym (to_z-of_z w64 c.in-Some.distance fd))

pub first_wide-requires-clause-whole : goal.first_wide-requires-clause-whole
first_wide-requires-clause-whole g c = whole_of c.args.code.now c.requires.sound.whole

pub returns-in-Some-first_wide-clause-refused : goal.returns-in-Some-first_wide-clause-refused
returns-in-Some-first_wide-clause-refused g c = (
  sym (far_is c.args.code.now (λ k. (c.type_inv.code k).fits) c.requires.sound c.as_slice.result.now (c.as_slice.ensures.value ∙ c.in_ok-starts.ensures {u = tt})) ∙ sym c.first_far.ensures ∙ c.in_default.is,
  sym c.first_wide.ensures ∙ c.in-Some-first_wide.is,
)

pub bytes-requires-clause-rise : goal.bytes-requires-clause-rise
bytes-requires-clause-rise g c =
    rise c.args.code.now (λ k. (c.type_inv.code k).fits) c.requires.sound c.as_slice-2.result.now (c.as_slice-2.ensures.value ∙ c.in_ok-starts.ensures {u = tt})

pub bytes-requires-clause-whole : goal.bytes-requires-clause-whole
bytes-requires-clause-whole g c = whole_of c.args.code.now c.requires.sound.whole

pub bytes-requires-clause-can : goal.bytes-requires-clause-can
bytes-requires-clause-can g c =
    writes c.args.code.now (λ k. (c.type_inv.code k).fits) c.requires.sound c.as_slice-2.result.now (c.as_slice-2.ensures.value ∙ c.in_ok-starts.ensures {u = tt})
    c.requires.small
    (sym (far_is c.args.code.now (λ k. (c.type_inv.code k).fits) c.requires.sound c.as_slice.result.now (c.as_slice.ensures.value ∙ c.in_ok-starts.ensures {u = tt})) ∙ sym c.first_far.ensures ∙ c.in_default.is)
    (sym c.first_wide.ensures ∙ c.in_default-first_wide.is)

pub of_parts-requires : goal.of_parts-requires
of_parts-requires g c = rise c.args.code.now (λ k. (c.type_inv.code k).fits) c.requires.sound c.in_ok-starts.starts.items (c.in_ok-starts.ensures {u = tt})

pub returns-clause-near : goal.returns-clause-near
returns-clause-near g c =
    sym (far_is c.args.code.now (λ k. (c.type_inv.code k).fits) c.requires.sound c.as_slice.result.now (c.as_slice.ensures.value ∙ c.in_ok-starts.ensures {u = tt})) ∙ sym c.first_far.ensures ∙ c.in_default.is

pub returns-clause-few : goal.returns-clause-few
returns-clause-few g c = sym c.first_wide.ensures ∙ c.in_default-first_wide.is

pub returns-clause-code : goal.returns-clause-code
returns-clause-code g c =
    ap (λ (t : Shortened). t.code) c.of_parts.ensures
    ∙ c.in_ok-short.ensures {u = tt}
    ∙ bytes_are c.args.code.now (λ k. (c.type_inv.code k).fits) c.requires.sound c.as_slice-2.result.now (c.as_slice-2.ensures.value ∙ c.in_ok-starts.ensures {u = tt}) (g.N.Renumber.numbered c.args.renumber.now)

pub returns-clause-places : goal.returns-clause-places
returns-clause-places g c =
    subst (Pairs (pieces_of c.args.code.now)) (sym (ap (λ (t : Shortened). t.starts) c.of_parts.ensures))
    (paired c.args.code.now (λ k. (c.type_inv.code k).fits) c.requires.sound c.in_ok-starts.starts.items (c.in_ok-starts.ensures {u = tt}))
