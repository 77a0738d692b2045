-- The names of the leaves that are asked for, in tree order, and the one at a place.
use Rattle.std.proofs.Common.{◌≡◌, ℕ, zero, suc, ◌+◌, ◌<◌, List, [], ◌∷◌, ◌++◌, length, map, drop, get_or, Some, Err, refl, sym, ap, ◌∙◌, arith, length-append}
use Rattle.std.specs.Global.{Vec}
use Rattle.std.specs.Prelude.{slice_get}
use Rattle.std.specs.Option.{option_map}
use Rattle.std.proofs.lemmas.List.{drop_more, length-map}
use Rattle.std.proofs.lemmas.Option.{slice_get-map, slice_get-get_or, slice_get_within}
use Rattle.bank_core.specs.BankView.{BankView}
use Rattle.mp_base.specs.declared.number.Guid.{Guid}
use Rattle.pool_moves.specs.StampRow.{NewLeaf, CreateReply, Created, FaultOn, leaves_from, new_leaves, top_leaves}
use Rattle.pool_moves.specs.States.{PoolState}
use Rattle.open_pool.specs.declared.new_tops.NewLeaf as code
use Rattle.open_pool.specs.Creating.{Creates, CreatesAs, IsCreatedAs, IsFaultOn, members_in, members_of, names_in, names_of}

abbrev name_of : NewLeaf → List ℕ
name_of leaf = leaf.name

under_named : (next top : ℕ) (ls : List code.NewLeaf) (rest : List NewLeaf)
    → map name_of (top_leaves next top (members_in ls) ++ rest) ≡ names_in ls ++ map name_of rest
under_named next top [] rest = refl
under_named next top (l ∷ ls) rest = ap (λ ns. l.name ∷ ns) (under_named (suc next) top ls rest)

named_along : (next top : ℕ) (tops : List (Vec code.NewLeaf)) → map name_of (leaves_from next top (members_of tops)) ≡ names_of tops
named_along next top [] = refl
named_along next top (ls ∷ tops) =
    under_named (suc next) top ls.items (leaves_from (suc next + length (members_in ls.items)) (suc top) (members_of tops))
    ∙ ap (λ ns. names_in ls.items ++ ns) (named_along (suc next + length (members_in ls.items)) (suc top) tops)

-- the name of the leaf at a place
pub named_at : (tops : List (Vec code.NewLeaf)) (place : ℕ) (leaf : NewLeaf) → slice_get (new_leaves (members_of tops)) place ≡ Some leaf
    → slice_get (names_of tops) place ≡ Some leaf.name
named_at tops place leaf at =
    ap (λ ns. slice_get ns place) (sym (named_along 1 1 tops)) ∙ slice_get-map name_of (new_leaves (members_of tops)) place ∙ ap (option_map name_of) at

-- within the first list, and behind it
get_front : (xs ys : List (List ℕ)) (i : ℕ) → i < length xs → slice_get (xs ++ ys) i ≡ slice_get xs i
get_front [] ys i lt = absurd (omega (arith, lt))
get_front (x ∷ xs) ys zero lt = refl
get_front (x ∷ xs) ys (suc i) lt = get_front xs ys i (omega (arith, lt))

get_behind : (xs ys : List (List ℕ)) (i k : ℕ) → i ≡ length xs + k → slice_get (xs ++ ys) i ≡ slice_get ys k
get_behind [] ys i k is = ap (slice_get ys) (let same : i ≡ k = omega (arith, is) in same)
get_behind (x ∷ xs) ys zero k is = absurd (omega (arith, is))
get_behind (x ∷ xs) ys (suc i) k is = get_behind xs ys i k (omega (arith, is))

module _ (tops : List (Vec code.NewLeaf)) (i : ℕ) (d leaves : Vec code.NewLeaf) (lt : i < length tops) (is : leaves ≡ get_or tops i d) where
  rest_is : names_of (drop i tops) ≡ names_in leaves.items ++ names_of (drop (i + 1) tops)
  rest_is = ap names_of (drop_more tops i d lt) ∙ ap (λ (ls : Vec code.NewLeaf). names_in ls.items ++ names_of (drop (i + 1) tops)) (sym is)

  pub name_here : (rest : ℕ) (leaf : code.NewLeaf) → rest < length leaves.items → leaf ≡ get_or leaves.items rest leaf
      → slice_get (names_of (drop i tops)) rest ≡ Some leaf.name
  name_here rest leaf inside at =
      let many = length-map leaves.items (λ (l : code.NewLeaf). l.name) in
      ap (λ ns. slice_get ns rest) rest_is ∙ get_front (names_in leaves.items) (names_of (drop (i + 1) tops)) rest (omega (arith, many, inside))
      ∙ slice_get-map (λ (l : code.NewLeaf). l.name) leaves.items rest
      ∙ ap (option_map (λ (l : code.NewLeaf). l.name)) (slice_get-get_or leaves.items rest leaf inside)
      ∙ ap (λ (l : code.NewLeaf). Some l.name) (sym at)

  pub name_later : (rest left : ℕ) → left + length leaves.items ≡ rest → slice_get (names_of (drop i tops)) rest ≡ slice_get (names_of (drop (i + 1) tops)) left
  name_later rest left is_left =
      let many = length-map leaves.items (λ (l : code.NewLeaf). l.name) in
      ap (λ ns. slice_get ns rest) rest_is
      ∙ get_behind (names_in leaves.items) (names_of (drop (i + 1) tops)) rest left (omega (arith, many, is_left))

  pub counts_here : length (names_of (drop i tops)) ≡ length leaves.items + length (names_of (drop (i + 1) tops))
  counts_here =
      let many = length-map leaves.items (λ (l : code.NewLeaf). l.name) in
      let both = length-append (names_in leaves.items) (names_of (drop (i + 1) tops)) in
      let all = ap length rest_is in
      omega (arith, many, both, all)

-- A create that names its device by a place has named it by its name.
record LeafThere (leaves : List NewLeaf) (place : ℕ) : Type 0 where
  leaf : NewLeaf
  there : slice_get leaves place ≡ Some leaf

leaf_there : (leaves : List NewLeaf) (reply : CreateReply) (s : PoolState) (place : ℕ) → IsCreatedAs leaves reply s (Err place) → LeafThere leaves place
leaf_there leaves Created s place says = absurd says
leaf_there leaves (FaultOn name) s place says = record { leaf = says.0; there = says.1 }

says_so : (tops : List (Vec code.NewLeaf)) (reply : CreateReply) (s : PoolState) (place : ℕ) (name : List ℕ)
    → IsCreatedAs (new_leaves (members_of tops)) reply s (Err place) → slice_get (names_of tops) place ≡ Some name → IsFaultOn name reply s
says_so tops Created s place name says at = absurd says
says_so tops (FaultOn other) s place name says at =
    let same : Some says.0.name ≡ Some name = sym (named_at tops place says.0 says.1) ∙ at in
    sym says.2 ∙ (let one : says.0.name ≡ name = cc in one)

module _ (title : List ℕ) (pool : Guid) (blocks : ℕ) (tops : List (Vec code.NewLeaf)) (old new : BankView) (place : ℕ)
    (c : Creates title pool blocks (members_of tops) (Err place) old new) where
  pub is_there : place < length (names_of tops)
  is_there =
      let at = leaf_there (new_leaves (members_of tops)) c.reply _ place c.says_so in
      slice_get_within (names_of tops) place at.leaf.name (named_at tops place at.leaf at.there)

  pub faults_on : (name : List ℕ) → slice_get (names_of tops) place ≡ Some name → CreatesAs title pool blocks (members_of tops) (IsFaultOn name) old new
  faults_on name at = record {
    stamps = c.stamps;
    moves = c.moves;
    reply = c.reply;
    row = c.row;
    calls = c.calls;
    says_so = says_so tops c.reply _ place name c.says_so at;
  }
