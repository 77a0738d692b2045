-- Which bytes are a page.
use Rattle.std.proofs.Common.{◌≡◌, ℕ, true, List, length, ap, sym, ◌∙◌}
use Rattle.std.specs.List.{list_all, list_any}
use Rattle.std.specs.Str.{bytes_eq}
use Rattle.std.proofs.lemmas.Bool.{and_parts, and_from}
use Rattle.std.proofs.lemmas.Slice.Eq.{bytes_eq-Decides}
use Rattle.mp_base.specs.declared.place.Pointer.{Pointer}
use Rattle.block_map.specs.Pages.{AreInForm, page_bytes, pointers_in}
use Rattle.block_map.proofs.PageBytes.{read_back, read_in_form}
use Rattle.pool_codec.specs.Codecs.{is_formed, is_written, is_page}

pub is_a_page : (pointers : List Pointer) → AreInForm pointers → list_all is_formed pointers ≡ true
    → list_any is_written pointers ≡ true → is_page (page_bytes pointers) ≡ true
is_a_page pointers form formed written =
    let bytes = page_bytes pointers in
    let back : pointers_in bytes ≡ pointers = read_back pointers form in
    and_from (bytes_eq (page_bytes (pointers_in bytes)) bytes) _
    ((bytes_eq-Decides (page_bytes (pointers_in bytes)) bytes).1 (ap page_bytes back))
    (and_from (list_all is_formed (pointers_in bytes)) _ (ap (list_all is_formed) back ∙ formed)
    (ap (list_any is_written) back ∙ written))

pub only_pages : (bytes : List ℕ) → length bytes ≡ 4096 → is_page bytes ≡ true
    → (pointers : List Pointer) × AreInForm pointers × (bytes ≡ page_bytes pointers) × (list_all is_formed pointers ≡ true)
    × (list_any is_written pointers ≡ true)
only_pages bytes long is =
    let parts = and_parts (bytes_eq (page_bytes (pointers_in bytes)) bytes) _ is in
    let pointers = and_parts (list_all is_formed (pointers_in bytes)) _ parts.1 in
    let spelled : page_bytes (pointers_in bytes) ≡ bytes =
    (bytes_eq-Decides (page_bytes (pointers_in bytes)) bytes).0 parts.0 in
    (pointers_in bytes, read_in_form bytes long spelled, sym spelled, pointers.0, pointers.1)
