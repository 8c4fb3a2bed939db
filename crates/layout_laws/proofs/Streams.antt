-- The metadata has its root, keeps the rules of its streams, and says where tables and heaps stand.
use Rattle.std.proofs.Common.{◌≡◌, ℕ, ◌+◌, ◌^◌, ◌<◌, ◌≤◌, true, List, [], ◌++◌, length, None, refl, ap, ◌∙◌, arith, length-append}
use Rattle.std.proofs.lemmas.Bool.{le-leb}
use Rattle.cil_layout.specs.declared.fixed.TheConstants.{MODULE_GUID}
use Rattle.cil_layout.specs.Layout.{metadata_by, root}
use Rattle.cil_layout.proofs.Stream.{length-root, length-metadata_by}
use Rattle.file_tables.specs.Bytes.{u16_at, u32_at, range_of}
use Rattle.file_tables.specs.Rules.{first_broken}
use Rattle.file_tables.specs.Streams.{is_root, after_version, streams_of, rules_of_streams, is_stream, header_end, stream_named, heap_named}
use Rattle.file_tables.specs.Metadata.{strings_name, guid_name, blob_name, user_strings_name, has_tables, tables_begin, tables_end}
use Rattle.layout_laws.proofs.Spans.{range_left, range_middle, range_end}
use Rattle.layout_laws.proofs.StreamHeaders.{headers_with, streams_are}

-- What a reader finds in the metadata of these tables and heaps.
pub record StreamsRead (region tables strings texts blobs : List ℕ) : Type 0 where
  pub root : is_root region ≡ true
  pub kept : first_broken (rules_of_streams region [] (streams_of region)) ≡ None
  pub has : has_tables region ≡ true
  pub begins : tables_begin region ≡ 108
  pub ends : tables_end region ≡ 108 + length tables
  pub strings_are : heap_named region strings_name ≡ strings
  pub guids_are : heap_named region guid_name ≡ MODULE_GUID
  pub blobs_are : heap_named region blob_name ≡ blobs
  pub texts_are : heap_named region user_strings_name ≡ texts

-- five headers whose ranges end in the region keep rule 9
headers_kept : (region : List ℕ) (tables strings texts blobs : ℕ) → 124 + tables + strings + texts + blobs ≤ length region → first_broken (rules_of_streams region [] (headers_with tables strings texts blobs)) ≡ None
unfolding rules_of_streams is_stream header_end
headers_kept region tables strings texts blobs fits =
    rw (
      le-leb 44 (length region) (omega arith),
      le-leb 64 (length region) (omega arith),
      le-leb 76 (length region) (omega arith),
      le-leb 92 (length region) (omega arith),
      le-leb 108 (length region) (omega arith),
      le-leb (108 + tables) (length region) (omega arith),
      le-leb (108 + tables + strings) (length region) (omega arith),
      le-leb (108 + tables + strings + texts) (length region) (omega arith),
      le-leb (108 + tables + strings + texts + 16) (length region) (omega arith),
      le-leb (108 + tables + strings + texts + 16 + blobs) (length region) (omega arith),
    ) refl

module _ (tables strings texts blobs : List ℕ) where
  -- what stands before `#Strings`
  before_strings : List ℕ
  before_strings = root (length tables) (length strings) (length texts) (length blobs) ++ tables

  -- before `#US`
  before_texts : List ℕ
  before_texts = before_strings ++ strings

  -- before `#GUID`
  before_guid : List ℕ
  before_guid = before_texts ++ texts

  length-before_strings : length before_strings ≡ 108 + length tables
  unfolding before_strings
  length-before_strings =
      omega (arith, length-append (root (length tables) (length strings) (length texts) (length blobs)) tables, length-root (length tables) (length strings) (length texts) (length blobs))

  length-before_texts : length before_texts ≡ 108 + length tables + length strings
  unfolding before_texts
  length-before_texts = omega (arith, length-append before_strings strings, length-before_strings)

  length-before_guid : length before_guid ≡ 108 + length tables + length strings + length texts
  unfolding before_guid
  length-before_guid = omega (arith, length-append before_texts texts, length-before_texts)

  -- the metadata by its parts
  metadata_is : metadata_by tables strings texts blobs ≡ before_guid ++ MODULE_GUID ++ blobs
  unfolding metadata_by before_guid before_texts before_strings
  metadata_is = refl

  -- each heap is the range that its header names
  strings_range : range_of (metadata_by tables strings texts blobs) (108 + length tables) (length strings) ≡ strings
  unfolding before_guid before_texts
  strings_range =
      ap (λ (l : List ℕ). range_of l (108 + length tables) (length strings)) metadata_is
      ∙ range_left (before_guid ++ MODULE_GUID) blobs (108 + length tables) (length strings) (omega (arith, length-append before_guid MODULE_GUID, length-before_guid))
      ∙ range_left before_guid MODULE_GUID (108 + length tables) (length strings) (omega (arith, length-before_guid))
      ∙ range_middle before_strings strings texts (108 + length tables) length-before_strings

  texts_range : range_of (metadata_by tables strings texts blobs) (108 + length tables + length strings) (length texts) ≡ texts
  unfolding before_guid
  texts_range =
      ap (λ (l : List ℕ). range_of l (108 + length tables + length strings) (length texts)) metadata_is
      ∙ range_left (before_guid ++ MODULE_GUID) blobs (108 + length tables + length strings) (length texts) (omega (arith, length-append before_guid MODULE_GUID, length-before_guid))
      ∙ range_middle before_texts texts MODULE_GUID (108 + length tables + length strings) length-before_texts

  guids_range : range_of (metadata_by tables strings texts blobs) (108 + length tables + length strings + length texts) 16 ≡ MODULE_GUID
  guids_range =
      ap (λ (l : List ℕ). range_of l (108 + length tables + length strings + length texts) 16) metadata_is
      ∙ range_middle before_guid MODULE_GUID blobs (108 + length tables + length strings + length texts) length-before_guid

  blobs_range : range_of (metadata_by tables strings texts blobs) (108 + length tables + length strings + length texts + 16) (length blobs) ≡ blobs
  blobs_range =
      ap (λ (l : List ℕ). range_of l (108 + length tables + length strings + length texts + 16) (length blobs)) metadata_is
      ∙ range_end (before_guid ++ MODULE_GUID) blobs (108 + length tables + length strings + length texts + 16) (omega (arith, length-append before_guid MODULE_GUID, length-before_guid))

-- rule 8
root_kept : (region : List ℕ) → u32_at region 0 ≡ 0x424A5342 → u32_at region 12 ≡ 12 → 32 ≤ length region → is_root region ≡ true
unfolding is_root after_version
root_kept region signature version long = rw (signature, version, le-leb 16 (length region) (omega arith), le-leb 32 (length region) long) refl

-- the root's signature, and the length of its version text
signature_is : (tables strings texts blobs : List ℕ) → u32_at (metadata_by tables strings texts blobs) 0 ≡ 0x424A5342
unfolding metadata_by root u32_at u16_at
signature_is tables strings texts blobs = refl

version_is : (tables strings texts blobs : List ℕ) → u32_at (metadata_by tables strings texts blobs) 12 ≡ 12
unfolding metadata_by root u32_at u16_at
version_is tables strings texts blobs = refl

-- the reader finds the streams as they were laid out
pub streams_read : (tables strings texts blobs : List ℕ) → length tables + length strings + length texts + length blobs < 2 ^ 31 → StreamsRead (metadata_by tables strings texts blobs) tables strings texts blobs
unfolding has_tables tables_begin tables_end stream_named heap_named
streams_read tables strings texts blobs small =
    let m : List ℕ = metadata_by tables strings texts blobs in
    let fits : length m ≡ 124 + length tables + length strings + length texts + length blobs = length-metadata_by tables strings texts blobs in
    let headers : streams_of m ≡ headers_with (length tables) (length strings) (length texts) (length blobs) = streams_are tables strings texts blobs small in
    record {
      root = root_kept m (signature_is tables strings texts blobs) (version_is tables strings texts blobs) (omega arith);
      kept = rw headers (headers_kept m (length tables) (length strings) (length texts) (length blobs) (omega arith));
      has = rw headers refl;
      begins = rw headers refl;
      ends = rw headers refl;
      strings_are = rw headers (strings_range tables strings texts blobs);
      guids_are = rw headers (guids_range tables strings texts blobs);
      blobs_are = rw headers (blobs_range tables strings texts blobs);
      texts_are = rw headers (texts_range tables strings texts blobs);
    }
