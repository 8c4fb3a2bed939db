-- The numbers that the headers of a file say.
use Rattle.std.proofs.Common.{◌≡◌, ℕ, ◌+◌, ◌-◌, ◌^◌, ◌<◌, List, ◌++◌, length, replicate, refl, ap, arith, length-append}
use Rattle.std.specs.Prelude.{slice_index}
use Rattle.std.proofs.lemmas.List.{length-replicate}
use Rattle.cil_layout.specs.declared.fixed.TheConstants.{CONTENT_RVA}
use Rattle.cil_layout.specs.Layout.{file_by, headers, cli_header, round_up, section_size}
use Rattle.file_tables.specs.Bytes.{u16_at, u32_at}
use Rattle.layout_laws.proofs.Spans.{four_number}

-- The headers of a file with one section of so many bytes, whose metadata stands so far behind the CLI header.
pub record HasHeaders (file : List ℕ) (raw before len token : ℕ) : Type 0 where
  pub first : slice_index file 0 ≡ 0x4D
  pub second : slice_index file 1 ≡ 0x5A
  pub pe_place : u32_at file 60 ≡ 128
  pub signature : u32_at file 128 ≡ 0x4550
  pub count : u16_at file 134 ≡ 1
  pub optional_size : u16_at file 148 ≡ 224
  pub magic : u16_at file 152 ≡ 0x10B
  pub cli_address : u32_at file 360 ≡ 0x2000
  pub cli_size : u32_at file 364 ≡ 72
  pub address : u32_at file 388 ≡ 0x2000
  pub size : u32_at file 392 ≡ raw
  pub pointer : u32_at file 396 ≡ 512
  pub region_address : u32_at file 520 ≡ CONTENT_RVA + before
  pub region_size : u32_at file 524 ≡ len
  pub flags : u32_at file 528 ≡ 1
  pub entry : u32_at file 532 ≡ token

-- a file that is built has them
pub has_headers : (metadata content : List ℕ) (entry : ℕ)
    → section_size metadata content < 2 ^ 31 → entry < 2 ^ 32
    → HasHeaders (file_by metadata content entry) (round_up 512 (section_size metadata content)) (length content) (length metadata) entry
unfolding file_by headers cli_header u32_at u16_at
has_headers metadata content entry fits entry_fits =
    record {
      first = refl;
      second = refl;
      pe_place = refl;
      signature = refl;
      count = refl;
      optional_size = refl;
      magic = refl;
      cli_address = refl;
      cli_size = refl;
      address = refl;
      size = four_number (round_up 512 (section_size metadata content)) (omega arith);
      pointer = refl;
      region_address = four_number (CONTENT_RVA + length content) (omega arith);
      region_size = four_number (length metadata) (omega arith);
      flags = refl;
      entry = four_number entry entry_fits;
    }

-- the headers take 584 bytes
length-headers : (size entry : ℕ) → length (headers size entry) ≡ 512
unfolding headers
length-headers size entry = refl

length-cli_header : (before size entry : ℕ) → length (cli_header before size entry) ≡ 72
unfolding cli_header
length-cli_header before size entry = refl

-- what stands before the bodies and data
pub front : (metadata content : List ℕ) (entry : ℕ) → List ℕ
front metadata content entry = headers (section_size metadata content) entry ++ cli_header (length content) (length metadata) entry

-- and behind the metadata
pub zeros : (metadata content : List ℕ) → List ℕ
zeros metadata content = replicate (round_up 512 (section_size metadata content) - section_size metadata content) 0

-- the file by its parts
pub file_is : (metadata content : List ℕ) (entry : ℕ) → file_by metadata content entry ≡ front metadata content entry ++ content ++ metadata ++ zeros metadata content
unfolding file_by front zeros
file_is metadata content entry = refl

pub length-front : (metadata content : List ℕ) (entry : ℕ) → length (front metadata content entry) ≡ 584
unfolding front
length-front metadata content entry =
    omega (
      arith,
      length-append (headers (section_size metadata content) entry) (cli_header (length content) (length metadata) entry),
      length-headers (section_size metadata content) entry,
      length-cli_header (length content) (length metadata) entry,
    )

-- the zeros fill the last 512 bytes
pub length-file_by : (metadata content : List ℕ) (entry : ℕ) → length (file_by metadata content entry) ≡ 512 + round_up 512 (section_size metadata content)
unfolding zeros
length-file_by metadata content entry =
    let f : List ℕ = front metadata content entry in
    omega (
      arith,
      ap length (file_is metadata content entry),
      length-front metadata content entry,
      length-append f content,
      length-append (f ++ content) metadata,
      length-append (f ++ content ++ metadata) (zeros metadata content),
      length-replicate {A = ℕ} (round_up 512 (section_size metadata content) - section_size metadata content) 0,
    )
