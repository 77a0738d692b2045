-- A record that was found is opened by its row: its leaves were looked for, and the pages of its map were read back.
use mathlib.Core.List.{map-map}
use Rattle.std.proofs.Common.{◌≡◌, inl, inr, ℕ, false, List, [], ◌∷◌, ◌++◌, length, map, Option, Some, None, Ok, Err, refl, sym, ap, ap₂, ◌∙◌, subst, subst₂, append-nil}
use Rattle.std.proofs.lemmas.Bool.{true≢false}
use Rattle.std.specs.List.{AllByRecursion}
use Rattle.mp_base.specs.declared.number.Group.{Group}
use Rattle.mp_base.specs.declared.number.Guid.{Guid}
use Rattle.mp_base.specs.declared.place.Key.{Key}
use Rattle.bank_core.specs.BankView.{BankView}
use Rattle.bank_core.specs.Calls.{Makes}
use Rattle.bank_core.specs.Disk.{Noted}
use Rattle.bank_core.proofs.Framing.{makes_none, makes_more}
use Rattle.label_store.specs.declared.found.Found.{Found}
use Rattle.label_store.specs.Newest.{ReadsOnly}
use Rattle.block_map.specs.Map.{Map}
use Rattle.block_map.specs.Reading.{NamesPlaces}
use Rattle.vdev_tree.specs.declared.top.Top.{Top}
use Rattle.vdev_tree.specs.declared.vdev.LeafVdev.{LeafVdev}
use Rattle.dtl_rules.specs.Widening.{leaves_of, marks_of, sectors_of}
use Rattle.mirror_io.specs.declared.copies.CopySeen.{CopySeen}
use Rattle.pool_config.specs.declared.config.Config.{Config}
use Rattle.pool_config.specs.Reading.{config_in, seen_in}
use Rattle.pool_config.specs.Seen.{ConfigSeen, config_seen, top_seen, top_vdevs}
use Rattle.txg_history.specs.Trees.{Child}
use Rattle.txg_engine.specs.Pins.{PinsSeen}
use Rattle.txg_engine.specs.Writes.{OpenGroup, block_at}
use Rattle.pool_codec.specs.Codecs.{pool_codec}
use Rattle.pool_codec.specs.Pointers.{sum_in}
use Rattle.pool_codec.specs.Tops.{top_sectors, room_of, number_of, children_of, kept_leaves_from}
use Rattle.pool_codec.proofs.LeavesKept.{vdevs_seen, sectors_seen}
use Rattle.pool_moves.specs.Leaves.{LeafSeen}
use Rattle.pool_moves.specs.Opened.{opened_leaves, opened_state}
use Rattle.pool_moves.specs.OpeningRow.{OpenReply, Opens_state, NoPage, OpenEnds, AreSought, RowOpen}
use Rattle.pool_moves.specs.OpeningRow as rows
use Rattle.pool_moves.specs.PageReads.{Reading, PageTurn, calls_of_turns, ReadsMap, StopsAt}
use Rattle.pool_moves.specs.States.{Sums, PoolState, no_group_seen, no_scan_seen}
use Rattle.open_pool.specs.declared.pages.PageFault.{PageFault}
use Rattle.open_pool.specs.declared.pages.PageFault.TheVariants as fault
use Rattle.open_pool.specs.Finding.{FindsLeaves}
use Rattle.open_pool.specs.Opening.{placed, all_placed, Reopens, ReopensOrStops}
use Rattle.open_pool.specs.Pages.{MapSource, source_of, Tells, reading_of, leaf_saw, ReadsWhole, LosesPage, StopsBy}
use Rattle.open_pool.specs.Parts.{TopParts, PoolParts, top_parts, all_parts}
use Rattle.open_pool.specs.State.{sums_of, leaves_from, leaves_under, sectors_in, vdevs_in, state_of, Stands}
use Rattle.open_pool.proofs.DevicesFound.{sought_reads}
use Rattle.open_pool.proofs.LeavesPlaced.{IsDecoded, leaves_placed}
use Rattle.open_pool.proofs.RecordsTold as told
use Rattle.open_pool.proofs.TreesBuilt.{built_sizes, numbers_told}
use Rattle.open_pool.proofs.TreesStay.{AreNumberedAlike}
use Rattle.open_pool.proofs.TurnSteps.{sectors_are}
use Rattle.open_pool.proofs.ValidLeaves.{valid_leaves}

-- The pool that an opening of this configuration leaves, over these tops, with the map that was read back.
abbrev pub reopened : Config → (tops : List Top) → Map → PinsSeen → OpenGroup → PoolParts
reopened c tops map pins unfrozen = record {
  name = c.name;
  pool = c.pool;
  next = c.next_guid;
  highest = c.number.0;
  read = c.number.0;
  opened = false;
  map = map;
  pins = pins;
  tops = all_parts tops;
  spares = c.spares.items;
  unfrozen = unfrozen;
  frozen = None;
  scan = None;
  dirty = 0;
}

-- The tops of a record, with each leaf on its device.
pub record ArePlaced (devs : List (Option ℕ)) (was is : List Top) : Type 0 where
  pub leaves : leaves_of is ≡ all_placed devs (leaves_of was)
  pub paired : length devs ≡ length (leaves_of was)
  pub built : marks_of is ≡ marks_of was
  pub sectors : sectors_of is ≡ sectors_of was

placed_number : (dev : Option ℕ) (leaf : LeafVdev) → (placed dev leaf).guid ≡ leaf.guid
placed_number None leaf = refl
placed_number (Some d) leaf = refl

unchanged : (leaves : List LeafVdev) → AreNumberedAlike leaves leaves
unchanged [] = tt
unchanged (leaf ∷ leaves) = (refl, unchanged leaves)

placed_numbers : (devs : List (Option ℕ)) (leaves : List LeafVdev) → AreNumberedAlike leaves (all_placed devs leaves)
placed_numbers devs [] = tt
placed_numbers [] (leaf ∷ leaves) = (refl, unchanged leaves)
placed_numbers (dev ∷ devs) (leaf ∷ leaves) = (placed_number dev leaf, placed_numbers devs leaves)

pub numbered_as : (devs : List (Option ℕ)) (was is : List Top) → ArePlaced devs was is → AreNumberedAlike (leaves_of was) (leaves_of is)
numbered_as devs was is p = subst (AreNumberedAlike (leaves_of was)) (sym p.leaves) (placed_numbers devs (leaves_of was))

-- what the state has of a configuration, with these leaves and pointers
abbrev opened_of : ConfigSeen → (name : List ℕ) → Guid → (number : ℕ) → List LeafSeen → Sums → PoolState
opened_of s name pool number leaves got = record {
  own = record {
    blocks = s.blocks;
    writes = λ a. None;
    top_number = number_of (map top_vdevs s.tops);
    children = children_of (map top_vdevs s.tops);
    spares = s.spares;
    next_member = s.next_guid;
    scrubs = false;
  };
  core = record {
    name = name;
    pool = pool;
    number = number;
    read_number = number;
    opened = false;
    committed = got;
    room = room_of (map top_sectors s.tops);
    leaves = leaves;
    group = no_group_seen;
    scan = no_scan_seen;
    pinned = [];
  };
}

module _ (found : Found) (c : Config) (reads : config_in found.blob.items ≡ Some (config_seen c)) (pool_is : found.pool ≡ c.pool)
    (number_is : found.number ≡ c.number) (is : List Top) (devs : List (Option ℕ)) (decoded : AllByRecursion IsDecoded (leaves_of c.tops.items))
    (on : ArePlaced devs c.tops.items is) where
  abbrev source : MapSource
  source = source_of is c.blocks c.number.0 c.root

  seen : seen_in found.blob.items ≡ config_seen c
  seen = told.seen_is found.blob.items c reads

  tells : Tells found.blob.items source
  tells = record {
    blocks_are = ap (λ (s : ConfigSeen). s.blocks) seen;
    room_is = told.room_is found.blob.items c reads ∙ ap room_of (sym on.sectors);
    root_is = ap (λ (s : ConfigSeen). sum_in s.root) seen;
  }

  leaves_there : opened_leaves (pool_codec.leaves found.blob.items) devs ≡ leaves_from [] 1 (leaves_under (all_parts is))
  leaves_there =
      ap (λ ls. opened_leaves ls devs) (told.leaves_are found.blob.items c reads)
      ∙ leaves_placed c.tops.items is devs decoded on.paired on.leaves (sym (built_sizes c.tops.items is on.built))

  -- its map is read as the row has it
  abbrev read_with : (number : ℕ) → List LeafSeen → (Key → Option (List ℕ)) → Sums → Reading
  read_with number leaves bytes got = record { codec = pool_codec; config = found.blob.items; number = number; leaves = leaves; found = bytes; got = got }

  same_reading : (bytes : Key → Option (List ℕ)) (got : Sums) → reading_of source [] found.blob.items bytes got ≡ rows.reading_of pool_codec found devs bytes got
  same_reading bytes got = ap₂ (λ number leaves. read_with number leaves bytes got) (ap (λ g. g.0) (sym number_is)) (sym leaves_there)

  row_of : (handed : List ℕ → Option ℕ) (old mid : BankView) (f : FindsLeaves found.pool (room_of (sectors_of c.tops.items)) handed (kept_leaves_from 1 c.tops.items) [] devs old mid)
      (bytes : Key → Option (List ℕ)) (got : Sums) (turns : List PageTurn) (last : List Noted) (reply : OpenReply)
      → OpenEnds reply pool_codec c.name found devs (rows.reading_of pool_codec found devs bytes got) turns last
      → RowOpen pool_codec old.size handed c.name found (f.made ++ (calls_of_turns turns ++ last)) reply
  row_of handed old mid f bytes got turns last reply ends =
      record {
        volume = told.few_blocks found.blob.items c reads;
        valid = valid_leaves found.blob.items c reads;
        devs = devs;
        ids = f.made;
        sought = subst (AreSought found.pool old.size (pool_codec.room found.blob.items) handed (pool_codec.leaves found.blob.items) f.made)
            (sym (f.devs_are ∙ append-nil f.found))
            (subst₂ (λ room leaves. AreSought found.pool old.size room handed leaves f.made f.found) (sym (told.room_is found.blob.items c reads))
            (sym (told.leaves_are found.blob.items c reads)) f.sought);
        bytes = bytes;
        got = got;
        turns = turns;
        last = last;
        ends = ends;
        calls = refl;
      }

  -- The state that the pool stands for.
  numbers : number_of (map top_vdevs (map top_seen c.tops.items)) ≡ number_of (vdevs_in (all_parts is))
  numbers = ap number_of (vdevs_seen c.tops.items ∙ sym (map-map (λ (top : TopParts). top.vdevs) top_parts c.tops.items))
      ∙ sym (numbers_told c.tops.items is on.built (numbered_as devs c.tops.items is on)).numbers

  children : children_of (map top_vdevs (map top_seen c.tops.items)) ≡ children_of (vdevs_in (all_parts is))
  children = ap children_of (vdevs_seen c.tops.items ∙ sym (map-map (λ (top : TopParts). top.vdevs) top_parts c.tops.items))
      ∙ sym (numbers_told c.tops.items is on.built (numbered_as devs c.tops.items is on)).children

  rooms : room_of (map top_sectors (map top_seen c.tops.items)) ≡ room_of (sectors_in (all_parts is))
  rooms = ap room_of (sectors_seen c.tops.items ∙ sym on.sectors ∙ sym (sectors_are is))

  abbrev state_with : (blocks : ℕ) → (writes : ℕ → Option (List ℕ)) → (ℕ → Guid) → (ℕ → List Child) → (room : ℕ → ℕ) → Sums → PoolState
  state_with blocks writes numbers children room got = record {
    own = record {
      blocks = blocks;
      writes = writes;
      top_number = numbers;
      children = children;
      spares = c.spares.items;
      next_member = c.next_guid;
      scrubs = false;
    };
    core = record {
      name = c.name;
      pool = c.pool;
      number = c.number.0;
      read_number = c.number.0;
      opened = false;
      committed = got;
      room = room;
      leaves = leaves_from [] 1 (leaves_under (all_parts is));
      group = no_group_seen;
      scan = no_scan_seen;
      pinned = [];
    };
  }

  state_is : (m : Map) (pins : PinsSeen) (unfrozen : OpenGroup) → m.blocks ≡ c.blocks → unfrozen.writes ≡ []
      → opened_state pool_codec c.name found devs (sums_of m) ≡ state_of [] (reopened c is m pins unfrozen)
  state_is m pins unfrozen blocks none =
      ap (λ s. opened_of s c.name found.pool found.number.0 (opened_leaves (pool_codec.leaves found.blob.items) devs) (sums_of m)) seen
      ∙ ap₂ (λ pool (number : Group). opened_of (config_seen c) c.name pool number.0 (opened_leaves (pool_codec.leaves found.blob.items) devs) (sums_of m)) pool_is number_is
      ∙ ap (λ leaves. opened_of (config_seen c) c.name c.pool c.number.0 leaves (sums_of m)) leaves_there
      ∙ ap₂ (λ blocks writes. state_with blocks writes (number_of (map top_vdevs (map top_seen c.tops.items)))
      (children_of (map top_vdevs (map top_seen c.tops.items))) (room_of (map top_sectors (map top_seen c.tops.items))) (sums_of m))
      (sym blocks) (ap block_at (sym none))
      ∙ ap₂ (λ n k. state_with m.blocks (block_at unfrozen.writes) n k (room_of (map top_sectors (map top_seen c.tops.items))) (sums_of m)) numbers children
      ∙ ap (λ room. state_with m.blocks (block_at unfrozen.writes) (number_of (vdevs_in (all_parts is))) (children_of (vdevs_in (all_parts is))) room (sums_of m)) rooms

  stands : (m : Map) (pins : PinsSeen) (unfrozen : OpenGroup) → m.blocks ≡ c.blocks → NamesPlaces m → unfrozen.writes ≡ []
      → Stands (reopened c is m pins unfrozen) (opened_state pool_codec c.name found devs (sums_of m))
  stands m pins unfrozen blocks places none = record {
    is = state_is m pins unfrozen blocks none;
    pinned = record {
      pinned = λ place on. absurd (true≢false (sym on ∙ places.unpinned place));
      held_places = λ place at. absurd at;
    };
  }

  -- So it answers with the pool where its map is read whole.
  pub opens_whole : (handed : List ℕ → Option ℕ) (m : Map) (pins : PinsSeen) (unfrozen : OpenGroup) (old mid new : BankView)
      → FindsLeaves found.pool (room_of (sectors_of c.tops.items)) handed (kept_leaves_from 1 c.tops.items) [] devs old mid
      → ReadsWhole source m mid new → m.blocks ≡ c.blocks → NamesPlaces m → unfrozen.writes ≡ []
      → Reopens handed c.name found (Ok (reopened c is m pins unfrozen)) old new
  opens_whole handed m pins unfrozen old mid new f whole blocks places none = record {
    made = f.made ++ (calls_of_turns whole.turns ++ []);
    calls = makes_more f.calls (subst (λ made. Makes made mid new) (sym (append-nil (calls_of_turns whole.turns))) whole.calls);
    reply = Opens_state (opened_state pool_codec c.name found devs (sums_of m));
    row = row_of handed old mid f whole.found (sums_of m) whole.turns [] (Opens_state (opened_state pool_codec c.name found devs (sums_of m)))
        (subst (λ x. ReadsMap x whole.turns) (same_reading whole.found (sums_of m)) (whole.is [] found.blob.items tells), refl, refl);
    says_so = stands m pins unfrozen blocks places none;
  }

  -- and with the page that was lost
  pub opens_lost : (handed : List ℕ → Option ℕ) (page : Key) (top : ℕ) (shown : List CopySeen) (old mid new : BankView)
      → FindsLeaves found.pool (room_of (sectors_of c.tops.items)) handed (kept_leaves_from 1 c.tops.items) [] devs old mid
      → LosesPage source page top shown mid new → Reopens handed c.name found (Err (fault.Lost page top shown)) old new
  opens_lost handed page top shown old mid new f lost = record {
    made = f.made ++ (calls_of_turns lost.turns ++ lost.reads);
    calls = makes_more f.calls lost.calls;
    reply = NoPage page (map leaf_saw shown);
    row = row_of handed old mid f lost.found lost.got lost.turns lost.reads (NoPage page (map leaf_saw shown)) (
      lost.level,
      lost.page_is,
      subst (λ x. StopsAt x lost.level page.index (map leaf_saw shown) lost.turns lost.reads) (same_reading lost.found lost.got)
          (lost.is [] found.blob.items tells).0,
    );
    says_so = (refl, refl);
  }

  -- or it stops there
  pub opens_stopped : (handed : List ℕ → Option ℕ) (stop : PageFault) (old mid new : BankView)
      → FindsLeaves found.pool (room_of (sectors_of c.tops.items)) handed (kept_leaves_from 1 c.tops.items) [] devs old mid
      → StopsBy source stop mid new → ReopensOrStops handed c.name found (Err stop) old new
  opens_stopped handed (fault.Lost page top shown) old mid new f lost = inl (opens_lost handed page top shown old mid new f lost)
  opens_stopped handed fault.Memory old mid new f same =
      inr (
        refl,
        subst (ReadsOnly old) (sym same) (record {
          made = f.made;
          calls = f.calls;
          reads = sought_reads found.pool old.size (room_of (sectors_of c.tops.items)) handed (kept_leaves_from 1 c.tops.items) f.made f.found f.sought;
        }),
      )

-- Without memory it may stop before it makes a call.
pub stops_first : (handed : List ℕ → Option ℕ) (name : List ℕ) (found : Found) (bank : BankView) → ReopensOrStops handed name found (Err fault.Memory) bank bank
stops_first handed name found bank = inr (refl, record { made = []; calls = makes_none; reads = tt })
