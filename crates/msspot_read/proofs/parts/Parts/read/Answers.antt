use Rattle.std.proofs.Common.{◌≡◌, ◌+◌, ◌-◌, ◌∙◌, sym, ap, get_or, take, drop, arith}
use Rattle.std.specs.List.{list_all}
use Rattle.little_endian.specs.Numbers.{number}
use Rattle.image_bytes.specs.Layout.{padding}
use Rattle.msspot_read.proofs.HeaderLaws.{HasHeader, end_of, is_zero, short_view, zero_not, size_not, cut_view, not_blank, whole_view}
use Rattle.msspot_read.proofs.parts.Parts.read.Goals as goal

pub returns-then-bytes-lt-HEADER : goal.returns-then-bytes-lt-HEADER
returns-then-bytes-lt-HEADER c = sym (short_view c.args.bytes.now (omega (arith, c.if-bytes-lt-HEADER.true)))

pub returns-then-u16_at-ne0 : goal.returns-then-u16_at-ne0
returns-then-u16_at-ne0 c =
    let bytes = c.args.bytes.now in
    let header : HasHeader bytes = record { long = omega (arith, c.if-bytes-lt-HEADER.false); marked = sym c.starts_with.ensures.value ∙ c.if-not-starts_with.false } in
    sym (zero_not bytes header (λ n. c.if-u16_at-ne0.true (c.u16_at.ensures ∙ n)))

pub returns-then-u32_at-size : goal.returns-then-u32_at-size
returns-then-u32_at-size c =
    let bytes = c.args.bytes.now in
    let header : HasHeader bytes = record { long = omega (arith, c.if-bytes-lt-HEADER.false); marked = sym c.starts_with.ensures.value ∙ c.if-not-starts_with.false } in
    let end : get_or c.pool_starts-pools.result 4 0 ≡ end_of bytes = c.pool_starts-pools.ensures.starts 4 (omega arith) in
    let size : c.padded-size.result ≡ end_of bytes + padding (end_of bytes) = c.padded-size.ensures ∙ ap (λ n. n + padding n) end in
    sym (size_not bytes header (λ n. c.if-u32_at-size.true (c.u32_at.ensures ∙ n ∙ sym size)))

pub returns-then-bytes-size : goal.returns-then-bytes-size
returns-then-bytes-size c =
    let bytes = c.args.bytes.now in
    let header : HasHeader bytes = record { long = omega (arith, c.if-bytes-lt-HEADER.false); marked = sym c.starts_with.ensures.value ∙ c.if-not-starts_with.false } in
    let z : number 2 54 bytes ≡ 0 = sym c.u16_at.ensures ∙ c.if-u16_at-ne0.false in
    let end : get_or c.pool_starts-pools.result 4 0 ≡ end_of bytes = c.pool_starts-pools.ensures.starts 4 (omega arith) in
    let size : c.padded-size.result ≡ end_of bytes + padding (end_of bytes) = c.padded-size.ensures ∙ ap (λ n. n + padding n) end in
    let told : number 4 8 bytes ≡ end_of bytes + padding (end_of bytes) = sym c.u32_at.ensures ∙ c.if-u32_at-size.false ∙ size in
    sym (cut_view bytes header z told (omega (arith, size, c.if-bytes-size.true)))

pub returns-then-not-is_blank : goal.returns-then-not-is_blank
returns-then-not-is_blank c =
    let bytes = c.args.bytes.now in
    let header : HasHeader bytes = record { long = omega (arith, c.if-bytes-lt-HEADER.false); marked = sym c.starts_with.ensures.value ∙ c.if-not-starts_with.false } in
    let z : number 2 54 bytes ≡ 0 = sym c.u16_at.ensures ∙ c.if-u16_at-ne0.false in
    let end : get_or c.pool_starts-pools.result 4 0 ≡ end_of bytes = c.pool_starts-pools.ensures.starts 4 (omega arith) in
    let size : c.padded-size.result ≡ end_of bytes + padding (end_of bytes) = c.padded-size.ensures ∙ ap (λ n. n + padding n) end in
    let told : number 4 8 bytes ≡ end_of bytes + padding (end_of bytes) = sym c.u32_at.ensures ∙ c.if-u32_at-size.false ∙ size in
    let cut : c.padded-size.result - get_or c.pool_starts-pools.result 4 0 ≡ padding (end_of bytes) = omega (arith, size, end) in
    let blank : c.is_blank.result ≡ list_all is_zero (take (padding (end_of bytes)) (drop (end_of bytes) bytes)) = c.is_blank.ensures ∙ ap (λ n. list_all is_zero (take n (drop (get_or c.pool_starts-pools.result 4 0) bytes))) cut ∙ ap (λ p. list_all is_zero (take (padding (end_of bytes)) (drop p bytes))) end in
    sym (not_blank bytes header z told (sym blank ∙ c.if-not-is_blank.true))

pub returns : goal.returns
returns c =
    let bytes = c.args.bytes.now in
    let header : HasHeader bytes = record { long = omega (arith, c.if-bytes-lt-HEADER.false); marked = sym c.starts_with.ensures.value ∙ c.if-not-starts_with.false } in
    let z : number 2 54 bytes ≡ 0 = sym c.u16_at.ensures ∙ c.if-u16_at-ne0.false in
    let end : get_or c.pool_starts-pools.result 4 0 ≡ end_of bytes = c.pool_starts-pools.ensures.starts 4 (omega arith) in
    let size : c.padded-size.result ≡ end_of bytes + padding (end_of bytes) = c.padded-size.ensures ∙ ap (λ n. n + padding n) end in
    let told : number 4 8 bytes ≡ end_of bytes + padding (end_of bytes) = sym c.u32_at.ensures ∙ c.if-u32_at-size.false ∙ size in
    let cut : c.padded-size.result - get_or c.pool_starts-pools.result 4 0 ≡ padding (end_of bytes) = omega (arith, size, end) in
    let blank : c.is_blank.result ≡ list_all is_zero (take (padding (end_of bytes)) (drop (end_of bytes) bytes)) = c.is_blank.ensures ∙ ap (λ n. list_all is_zero (take n (drop (get_or c.pool_starts-pools.result 4 0) bytes))) cut ∙ ap (λ p. list_all is_zero (take (padding (end_of bytes)) (drop p bytes))) end in
    sym (whole_view bytes header z told (omega (arith, size, c.if-bytes-size.false)) (sym blank ∙ c.if-not-is_blank.false))
