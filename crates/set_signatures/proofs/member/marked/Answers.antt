use Rattle.std.proofs.Common.{◌≡◌, ◌+◌, ◌*◌, ◌∙◌, sym, ap, get_or}
use Rattle.std.specs.Option.{option_map}
use Rattle.member_keys.specs.Seen.{type_seen}
use Rattle.set_signatures.specs.Meant.{result_read_seen, places_read_seen, joined, whole_of, result_told, places_told}
use Rattle.set_signatures.proofs.PartLaws.{rest_is}
use Rattle.set_signatures.proofs.MemberLaws.{marked_no_result, marked_with}
use Rattle.set_signatures.proofs.member.marked.Goals as goal

pub returns-in_default-returned : goal.returns-in_default-returned
returns-in_default-returned c =
    let bytes = c.args.bytes.now in
    marked_no_result c.args.tokens.now c.args.has_this bytes c.in-len2-up.len_at_least (sym (ap (option_map result_read_seen) c.in_default-returned.is) ∙ c.returned.ensures ∙ ap (result_told c.args.tokens.now) (rest_is 2 bytes))

pub returns-in-Some-listed : goal.returns-in-Some-listed
returns-in-Some-listed c =
    let t = c.args.tokens.now in
    let bytes = c.args.bytes.now in
    let r = option_map type_seen c.in-Some.result.returns in
    let after = c.in-Some.result.rest.now in
    let count : c.from.result + 256 * c.from-2.result ≡ get_or bytes 0 0 + 256 * get_or bytes 1 0 = ap (λ a. a + 256 * c.from-2.result) c.from.ensures ∙ ap (λ b. get_or bytes 0 0 + 256 * b) c.from-2.ensures in
    c.finished.ensures
    ∙ ap (λ o. option_map (joined c.args.has_this r) (whole_of o)) (sym (ap (option_map places_read_seen) c.in-Some-listed.is) ∙ c.in_ok-listed.ensures ∙ ap (λ n. places_told t n after) count)
    ∙ marked_with t c.args.has_this bytes r after c.in-len2-up.len_at_least (c.in-Some.ensures ∙ ap (result_told t) (rest_is 2 bytes))

pub returns-in-None : goal.returns-in-None
returns-in-None c =
    let t = c.args.tokens.now in
    let bytes = c.args.bytes.now in
    let r = option_map type_seen c.in-Some.result.returns in
    let after = c.in-Some.result.rest.now in
    let count : c.from.result + 256 * c.from-2.result ≡ get_or bytes 0 0 + 256 * get_or bytes 1 0 = ap (λ a. a + 256 * c.from-2.result) c.from.ensures ∙ ap (λ b. get_or bytes 0 0 + 256 * b) c.from-2.ensures in
    ap (λ o. option_map (joined c.args.has_this r) (whole_of o)) (sym (ap (option_map places_read_seen) c.in-None.is) ∙ c.in_ok-listed.ensures ∙ ap (λ n. places_told t n after) count)
    ∙ marked_with t c.args.has_this bytes r after c.in-len2-up.len_at_least (c.in-Some.ensures ∙ ap (result_told t) (rest_is 2 bytes))
