-- An opening, from what its calls tell: the leaves of a record were looked for and put on their devices, and then its map is read.
use Rattle.std.proofs.Common.{◌≡◌, inl, ℕ, ◌<◌, ◌≤◌, List, [], length, Option, Some, Ok, Err, sym, ap, ◌∙◌, subst}
use Rattle.std.specs.Prelude.{All, AllPairs}
use Rattle.std.specs.List.{AllByRecursion}
use Rattle.mp_base.specs.declared.number.Group.{Group}
use Rattle.mp_base.specs.declared.place.Key.{Key}
use Rattle.bank_core.specs.BankView.{BankView}
use Rattle.label_store.specs.declared.found.Found.{Found}
use Rattle.block_map.specs.Keys.{IsVolume}
use Rattle.block_map.specs.Map.{Map, pointer_at}
use Rattle.block_map.specs.Places.{AreTops}
use Rattle.block_map.specs.Pointers.{IsPointer, IsInForm}
use Rattle.block_map.specs.Reading.{NamesPlaces}
use Rattle.vdev_tree.specs.declared.top.Top.{Top}
use Rattle.vdev_tree.specs.declared.vdev.LeafVdev.{LeafVdev}
use Rattle.dtl_rules.specs.Widening.{leaves_of, marks_of, sectors_of}
use Rattle.pool_config.specs.declared.config.Config.{Config}
use Rattle.pool_config.specs.Reading.{config_in}
use Rattle.pool_config.specs.Seen.{config_seen, IsRecorded}
use Rattle.pool_config.specs.Validity.{IsIn, IsValid}
use Rattle.pool_config.proofs.Deciding.{is_config}
use Rattle.txg_engine.specs.Pins.{PinsSeen}
use Rattle.txg_engine.specs.Writes.{OpenGroup}
use Rattle.pool_codec.specs.Tops.{LiesWithin, room_of, kept_leaves_from}
use Rattle.pool_moves.specs.OpeningRow.{last_numbers}
use Rattle.open_pool.specs.declared.pages.PageFault.{PageFault}
use Rattle.open_pool.specs.Finding.{FindsLeaves, handed_to}
use Rattle.open_pool.specs.Here.{AreHere}
use Rattle.open_pool.specs.Opening.{all_placed, IsReopened, ReopensOrStops}
use Rattle.open_pool.specs.Pages.{HaveOwnDevices, source_of, ReadsWhole, StopsBy}
use Rattle.open_pool.specs.Parts.{all_parts}
use Rattle.open_pool.proofs.DevicesFound.{AreTwo}
use Rattle.open_pool.proofs.FormReopened as form
use Rattle.open_pool.proofs.LeavesPlaced.{IsDecoded}
use Rattle.open_pool.proofs.MapsNeeded as needs
use Rattle.open_pool.proofs.NumbersApart.{AreNumbered}
use Rattle.open_pool.proofs.RecordReopened as rows
use Rattle.open_pool.proofs.RecordReopened.{reopened, ArePlaced}
use Rattle.open_pool.proofs.ValidLeaves.{are_decoded}

module _ (c : Config) (found : Found) (reads : config_in found.blob.items ≡ Some (config_seen c)) where
  valid : IsValid (config_seen c)
  valid = (is_config found.blob.items (config_seen c) reads).valid

  pub sized : All (IsIn 64 1048320) (sectors_of c.tops.items)
  sized = needs.tops_are_sized c valid

  pub few : length (leaves_of c.tops.items) ≤ 32
  few = needs.leaves_are_few c valid

  pub numbered : AreNumbered (leaves_of c.tops.items)
  numbered = needs.numbers_are_apart c valid

  pub volume : IsVolume c.blocks
  volume = needs.has_volume c valid

  pub born : c.root.birth.0 ≤ c.number.0
  born = needs.root_is_born c valid

-- The leaves were looked for on devices that were handed in, and put on those where they were found.
pub record IsPlacing (c : Config) (found : Found) (given devs : List (Option ℕ)) (is : List Top) (old mid : BankView) : Type 0 where
  pub reads : config_in found.blob.items ≡ Some (config_seen c)
  pub pool_is : found.pool ≡ c.pool
  pub number_is : found.number ≡ c.number
  pub recorded : All IsRecorded (leaves_of c.tops.items)
  pub lie : All (λ leaf. LiesWithin leaf.log) (leaves_of c.tops.items)
  pub two : AllPairs AreTwo given
  pub paired : length given ≡ length (leaves_of c.tops.items)
  pub finds : (handed : List ℕ → Option ℕ) → handed_to handed (leaves_of c.tops.items) ≡ given
      → FindsLeaves found.pool (room_of (sectors_of c.tops.items)) handed (kept_leaves_from 1 c.tops.items) [] devs old mid
  pub on : ArePlaced devs c.tops.items is

-- so by the calls, over tops that are the configuration's
pub are_placing : (c : Config) (found : Found) (given list devs : List (Option ℕ)) (sought changed new is : List Top) (old mid : BankView)
    → config_in found.blob.items ≡ Some (config_seen c) → found.pool ≡ c.pool → found.number ≡ c.number → All IsRecorded (leaves_of c.tops.items)
    → length given ≡ length (leaves_of c.tops.items) → AllPairs AreTwo given → list ≡ given → sought ≡ c.tops.items → changed ≡ c.tops.items → is ≡ new
    → ((handed : List ℕ → Option ℕ) → handed_to handed (leaves_of sought) ≡ list
    → FindsLeaves found.pool (room_of (sectors_of sought)) handed (kept_leaves_from 1 sought) [] devs old mid)
    → length devs ≡ length list → leaves_of new ≡ all_placed devs (leaves_of changed) → marks_of new ≡ marks_of changed
    → sectors_of new ≡ sectors_of changed → All (λ leaf. LiesWithin leaf.log) (leaves_of changed) → IsPlacing c found given devs is old mid
are_placing c found given list devs sought changed new is old mid reads pool_is number_is recorded paired two front sought_is changed_is new_is finds long leaves
    built sectors lie =
    record {
      reads = reads;
      pool_is = pool_is;
      number_is = number_is;
      recorded = recorded;
      lie = subst (λ ts. All (λ (leaf : LeafVdev). LiesWithin leaf.log) (leaves_of ts)) changed_is lie;
      two = two;
      paired = paired;
      finds = λ handed are.
          subst (λ ts. FindsLeaves found.pool (room_of (sectors_of ts)) handed (kept_leaves_from 1 ts) [] devs old mid) sought_is
          (finds handed (ap (λ ts. handed_to handed (leaves_of ts)) sought_is ∙ are ∙ sym front));
      on = record {
        leaves = ap leaves_of new_is ∙ leaves ∙ ap (λ ts. all_placed devs (leaves_of ts)) changed_is;
        paired = long ∙ ap length front ∙ paired;
        built = ap marks_of new_is ∙ built ∙ ap marks_of changed_is;
        sectors = ap sectors_of new_is ∙ sectors ∙ ap sectors_of changed_is;
      };
    }

module _ (c : Config) (found : Found) (given devs : List (Option ℕ)) (is : List Top) (old mid : BankView) (p : IsPlacing c found given devs is old mid) where
  decoded : AllByRecursion IsDecoded (leaves_of c.tops.items)
  decoded = are_decoded (leaves_of c.tops.items) p.recorded p.lie

  -- what the reading of the map asks for
  pub tops : AreTops (sectors_of is)
  tops = needs.are_tops c (valid c found p.reads) devs is p.on

  pub pointer : IsPointer (sectors_of is) c.root
  pointer = needs.root_is_pointer c (valid c found p.reads) devs is p.on

  pub few_there : length (leaves_of is) ≤ 32
  few_there = needs.few_placed c (valid c found p.reads) devs is p.on

  pub apart : HaveOwnDevices (leaves_of is)
  apart = needs.leaves_apart c (valid c found p.reads) given p.paired p.two found.pool devs old mid p.finds is p.on

  pub here : AreHere mid.size (all_parts is)
  here = needs.leaves_here c (valid c found p.reads) given p.paired p.two found.pool devs old mid p.finds is p.on

  -- the pool that is read back, and the answers
  pub leaves_pool : found.number.0 < last_numbers → (m : Map) (pins : PinsSeen) (unfrozen : OpenGroup) → m.blocks ≡ c.blocks → m.sectors ≡ sectors_of is → NamesPlaces m
      → ((k : Key) → (pointer_at m k).birth.0 ≤ c.number.0) → ((k : Key) → IsPointer m.sectors (pointer_at m k))
      → ((k : Key) → IsInForm (pointer_at m k)) → pins.places ≡ [] → unfrozen.writes ≡ [] → 4096 ≤ unfrozen.room
      → IsReopened (reopened c is m pins unfrozen)
  leaves_pool below m pins unfrozen blocks sectors places births fits forms unpinned none room =
      form.is_reopened c (valid c found p.reads) is devs decoded p.on
      (needs.found_two c (valid c found p.reads) given p.paired p.two found.pool devs old mid p.finds)
      m blocks sectors places births fits forms pins unpinned unfrozen none room (subst (λ (n : Group). n.0 < last_numbers) p.number_is below)

  pub answers_pool : (m : Map) (pins : PinsSeen) (unfrozen : OpenGroup) (new : BankView) → ReadsWhole (source_of is c.blocks c.number.0 c.root) m mid new
      → m.blocks ≡ c.blocks → NamesPlaces m → unfrozen.writes ≡ [] → (handed : List ℕ → Option ℕ) → handed_to handed (leaves_of c.tops.items) ≡ given
      → ReopensOrStops handed c.name found (Ok (reopened c is m pins unfrozen)) old new
  answers_pool m pins unfrozen new whole blocks places none handed are =
      inl (rows.opens_whole found c p.reads p.pool_is p.number_is is devs decoded p.on handed m pins unfrozen old mid new (p.finds handed are) whole
      blocks places none)

  pub answers_stop : (stop : PageFault) (new : BankView) → StopsBy (source_of is c.blocks c.number.0 c.root) stop mid new
      → (handed : List ℕ → Option ℕ) → handed_to handed (leaves_of c.tops.items) ≡ given → ReopensOrStops handed c.name found (Err stop) old new
  answers_stop stop new stops handed are =
      rows.opens_stopped found c p.reads p.pool_is p.number_is is devs decoded p.on handed stop old mid new (p.finds handed are) stops
