-- The record that a frozen group's pool draws up is one of its state.
use Rattle.std.proofs.Common.{◌≡◌, ⊎_elim, ℕ, suc, ◌<◌, ◌≤◌, ◌^◌, Bool, true, false, List, [], ◌∷◌, ◌++◌, map, take, Option, Some, None, refl, sym, ap, ◌∙◌, subst, arith}
use Rattle.std.specs.List.{AllByRecursion}
use Rattle.std.specs.Option.{option_map}
use Rattle.std.proofs.lemmas.List.{map-append}
use Rattle.std.proofs.lemmas.List.Elements.{recursion_from_All}
use Rattle.sha2.proofs.Facts256.{length-sha256}
use Rattle.mp_base.specs.declared.number.Group.{Group}
use Rattle.mp_base.specs.declared.number.Guid.{Guid}
use Rattle.mp_base.specs.declared.place.Key.{Key}
use Rattle.bank_core.specs.Disk.{sector_size}
use Rattle.label_store.specs.Committing.{IsSealed}
use Rattle.label_store.specs.declared.member.Member.{Member}
use Rattle.label_store.specs.declared.rule.Head.{Head}
use Rattle.label_store.specs.Records.{IsHeaded, IsRecord}
use Rattle.label_store.specs.Rounds.{Commit, uberblock_of}
use Rattle.block_map.specs.Keys.{root, IsKey}
use Rattle.block_map.specs.Map.{Map, pointer_at}
use Rattle.block_map.specs.Pointers.{hole}
use Rattle.block_map.proofs.KeyNumbers.{is_key_cases}
use Rattle.block_map.proofs.PointersChanged.{no_pointer}
use Rattle.vdev_tree.specs.Tree.{leaves}
use Rattle.vdev_tree.specs.declared.top.Top.{Top}
use Rattle.vdev_tree.specs.declared.vdev.LeafVdev.{LeafVdev}
use Rattle.vdev_tree.specs.declared.vdev.State.{State}
use Rattle.vdev_tree.specs.declared.vdev.State.TheVariants.{Degraded, Faulted, Offline}
use Rattle.dtl_rules.specs.Widening.{leaves_of}
use Rattle.pool_config.specs.Flags.{recorded}
use Rattle.pool_config.specs.Reading.{seen_in}
use Rattle.pool_config.specs.Seen.{ConfigSeen, parts_seen, top_seen, top_vdevs}
use Rattle.pool_config.proofs.Deciding.{back}
use Rattle.pool_config.proofs.Returning.{seen_back}
use Rattle.pool_codec.specs.Codecs.{pool_codec, head_of_seen}
use Rattle.pool_codec.specs.Pointers.{sum_in}
use Rattle.pool_codec.specs.Tops.{top_sectors, room_of, number_of, children_of, kept_from, kept_of, kept_leaves_from}
use Rattle.pool_codec.proofs.KeysOfVolumes.{of_volume}
use Rattle.pool_codec.proofs.LeavesKept.{leaves_kept, owed_is_the_log, sectors_seen, vdevs_seen}
use Rattle.txg_history.specs.Pages.{Sum, IsOfVolume}
use Rattle.txg_history.specs.Records.{Cell}
use Rattle.txg_engine.specs.declared.item.Item.{Item}
use Rattle.txg_engine.specs.declared.seat.Seat.{Seat}
use Rattle.txg_engine.specs.Frozen.{FrozenGroup, IsGroup}
use Rattle.txg_engine.specs.Items.{laid}
use Rattle.pool_moves.specs.Drafts.{draft_of, kept_leaf, kept_mode}
use Rattle.pool_moves.specs.Moves.{Draft, sum_over}
use Rattle.pool_moves.specs.States.{Sums}
use Rattle.pool_moves.specs.TurnRows.{FitsState, FitsOwn}
use Rattle.open_pool.specs.Form.{all_leaves, IsPool}
use Rattle.open_pool.specs.Parts.{PoolParts, all_parts}
use Rattle.open_pool.specs.State.{cells_of, leaf_of, leaves_from, leaves_under, own_state, seen_of, sums_of, vdevs_in}
use Rattle.open_pool.specs.Turning.{Draws}
use Rattle.open_pool.proofs.GoingKept.{trees_leaves}
use Rattle.open_pool.proofs.KeysFound.{found_item, laid_sums}
use Rattle.open_pool.proofs.LogsWidened.{IsWithin}
use Rattle.open_pool.proofs.TreesStay.{vdevs_are}
use Rattle.open_pool.proofs.TurnSteps.{going, sectors_are}

-- A leaf as the record keeps it.
same_mode : (state : State) (temporary : Bool) → recorded state temporary ≡ kept_mode temporary state
same_mode Offline true = refl
same_mode Offline false = refl
same_mode Faulted true = refl
same_mode Faulted false = refl
same_mode Degraded true = refl
same_mode Degraded false = refl
same_mode _ true = refl
same_mode _ false = refl

kept_leaf_is : (n : ℕ) (seats : List Seat) (top : ℕ) (leaf : LeafVdev) → n ≤ 2 ^ 62 → IsWithin n leaf
    → kept_of top leaf ≡ kept_leaf (leaf_of seats top leaf)
kept_leaf_is n seats top leaf high within =
    ap (λ owes. record (kept_of top leaf) { owes = owes })
    (owed_is_the_log leaf.log (λ g there. ((within g there).0, (let most = (within g there).1 in omega (arith, high, most)))))
    ∙ ap (λ mode. record (kept_leaf (leaf_of seats top leaf)) { mode = mode }) (same_mode leaf.state leaf.temporary)

kept_under_top : (n : ℕ) (seats : List Seat) (top : ℕ) (under : List LeafVdev) → n ≤ 2 ^ 62 → AllByRecursion (IsWithin n) under
    → map (kept_of top) under ≡ map kept_leaf (map (leaf_of seats top) under)
kept_under_top n seats top [] high within = refl
kept_under_top n seats top (leaf ∷ under) high within =
    ap (λ l. l ∷ map (kept_of top) under) (kept_leaf_is n seats top leaf high within.0)
    ∙ ap (λ ls. kept_leaf (leaf_of seats top leaf) ∷ ls) (kept_under_top n seats top under high within.1)

first_within : (n : ℕ) (xs ys : List LeafVdev) → AllByRecursion (IsWithin n) (xs ++ ys)
    → AllByRecursion (IsWithin n) xs × AllByRecursion (IsWithin n) ys
first_within n [] ys all = (tt, all)
first_within n (x ∷ xs) ys all = let more = first_within n xs ys all.1 in ((all.0, more.0), more.1)

kept_leaves : (n : ℕ) (seats : List Seat) (top : ℕ) (tops : List Top) → n ≤ 2 ^ 62 → AllByRecursion (IsWithin n) (leaves_of tops)
    → kept_leaves_from top tops ≡ map kept_leaf (leaves_from seats top (leaves_under (all_parts tops)))
kept_leaves n seats top [] high within = refl
kept_leaves n seats top (t ∷ tops) high within =
    let parts = first_within n (leaves t.mirror) (leaves_of tops) within in
    ap (λ ls. ls ++ kept_leaves_from (suc top) tops) (kept_under_top n seats top (leaves t.mirror) high parts.0)
    ∙ ap (λ ls. map kept_leaf (map (leaf_of seats top) (leaves t.mirror)) ++ ls) (kept_leaves n seats (suc top) tops high parts.1)
    ∙ sym (map-append kept_leaf (map (leaf_of seats top) (leaves t.mirror)) (leaves_from seats (suc top) (leaves_under (all_parts tops))))

no_sum : (m : Map) (k : Key) (sum : Sum) → pointer_at m k ≡ hole → sums_of m k ≡ Some sum → ⊥
no_sum m k sum none is = absurd (let no : None ≡ Some sum = ap sum_in (sym none) ∙ is in cc)

-- What is sealed is a record.
most_bytes : (blob : List ℕ) (bytes : ℕ) → IsSealed blob bytes → bytes ≤ 114688
unfolding sector_size
most_bytes blob bytes s = let few = s.most in let whole = s.whole in let within = s.within in omega arith

-- the configuration that is drawn up of a frozen group, over the map and the trees
abbrev pub drawn_of : PoolParts → FrozenGroup → List Top → ConfigSeen
drawn_of b group trees = parts_seen b.pool b.name b.map.blocks group.numbers.last b.next (laid group.items (pointer_at b.map) root) trees b.spares

module _ (held : List Sums) (b : PoolParts) (group : FrozenGroup) (trees : List Top) (pool : IsPool (going b group trees)) (kept : IsGroup group)
    (commit : Commit) (draws : Draws commit (drawn_of b group trees)) where
  seen_is : seen_in (take commit.length commit.blob) ≡ drawn_of b group trees
  seen_is = ap seen_in draws.bytes ∙ seen_back (drawn_of b group trees) draws.valid

  read : pool_codec.head_of (take commit.length commit.blob) ≡ Some (head_of_seen (drawn_of b group trees))
  read = ap pool_codec.head_of draws.bytes ∙ ap (option_map head_of_seen) (back (drawn_of b group trees) draws.valid)

  pub headed : IsHeaded pool_codec.head_of commit.pool commit.number (take commit.length commit.blob)
  headed = record { head = head_of_seen (drawn_of b group trees); reads = read; pool_is = sym draws.pool; number_is = sym draws.number }

  a_record : (m : Member) → m.guid.0 < 2 ^ 64 → IsRecord pool_codec.head_of (uberblock_of commit m) commit.blob (take commit.length commit.blob)
  a_record m member =
      let least : 1 ≤ commit.number.0 = subst (λ (g : Group). 1 ≤ g.0) (sym draws.number) draws.valid.number.0 in
      record {
        in_range = record {
          pool = subst (λ (g : Guid). g.0 < 2 ^ 64) (sym draws.pool) draws.valid.pool;
          member = member;
          number = subst (λ (g : Group). g.0 ≤ 2 ^ 62) (sym draws.number) draws.valid.number.1;
          config = most_bytes commit.blob commit.length draws.sealed;
          sum = length-sha256 (take commit.length commit.blob);
          no_config = λ zero'. absurd (omega (arith, least, zero'));
          no_sum = λ zero'. absurd (omega (arith, least, zero'));
        };
        some = least;
        whole = draws.sealed.whole;
        most = draws.sealed.most;
        within = draws.sealed.within;
        config_is = refl;
        sum = refl;
        headed = headed;
      }

  inside_by : (k : Key) (sum : Sum) (o : Option Cell) → cells_of group.items k ≡ o → sum_over o (sums_of b.map k) ≡ Some sum → IsKey b.map.blocks k
  inside_by k sum None none is = ⊎_elim (λ here. here) (λ off. absurd (no_sum b.map k sum (no_pointer b.map k off) is)) (is_key_cases b.map.blocks k)
  inside_by k sum (Some cell) some is =
      let found = found_item group.items k cell some in
      let (i, lt, at) = found.among in
      subst (IsKey b.map.blocks) found.key_is (subst (λ (item : Item). IsKey b.map.blocks item.key) at (pool.group.keys i found.item lt))

  within : AllByRecursion (IsWithin group.numbers.last.0) (leaves_of trees)
  within = subst (AllByRecursion (IsWithin group.numbers.last.0)) (trees_leaves trees)
      (recursion_from_All (IsWithin group.numbers.last.0) (all_leaves (going b group trees)) pool.leaves.within)

  vdevs_told : map top_vdevs (map top_seen trees) ≡ vdevs_in (all_parts trees)
  vdevs_told = vdevs_seen trees ∙ sym (vdevs_are trees)

  abbrev pub draft : Draft
  draft = draft_of commit (seen_of held (going b group trees)).leaves

  pub fits_state : FitsState pool_codec (seen_of held (going b group trees)) draft
  fits_state = record {
    pool_is = draws.pool;
    number_is = ap (λ (g : Group). g.0) draws.number;
    is_record = a_record;
    sealed = draws.sealed;
    name_is = λ head is. let same : Some (head_of_seen (drawn_of b group trees)) ≡ Some head = sym read ∙ is in
        let one : head_of_seen (drawn_of b group trees) ≡ head = cc in ap (λ (h : Head). h.name) (sym one);
    room_is = ap (λ (x : ConfigSeen). room_of (map top_sectors x.tops)) seen_is ∙ ap room_of (sectors_seen trees ∙ sym (sectors_are trees));
    inside = λ k sum is. subst (λ n. IsOfVolume n k) (sym (ap (λ (x : ConfigSeen). x.blocks) seen_is))
        ((of_volume b.map.blocks k).0 (inside_by k sum (cells_of group.items k) refl is));
    root = ap (λ (x : ConfigSeen). sum_in x.root) seen_is
        ∙ laid_sums group.numbers.first.0 group.items (pointer_at b.map) root kept.low pool.group.signed kept.rise;
    leaves_are = ap (λ (x : ConfigSeen). kept_from 1 (map top_vdevs x.tops)) seen_is
        ∙ ap (kept_from 1) (vdevs_seen trees) ∙ leaves_kept 1 trees
        ∙ kept_leaves group.numbers.last.0 group.board 1 trees draws.valid.number.1 within;
  }

  pub fits_own : FitsOwn pool_codec (own_state (going b group trees)) draft
  fits_own = record {
    volume = ap (λ (x : ConfigSeen). x.blocks) seen_is;
    top_numbers = ap (λ (x : ConfigSeen). number_of (map top_vdevs x.tops)) seen_is ∙ ap number_of vdevs_told;
    children_are = ap (λ (x : ConfigSeen). children_of (map top_vdevs x.tops)) seen_is ∙ ap children_of vdevs_told;
    spares_are = ap (λ (x : ConfigSeen). x.spares) seen_is;
    next = ap (λ (x : ConfigSeen). x.next_guid) seen_is;
  }
