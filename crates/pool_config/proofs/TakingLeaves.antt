-- A leaf that was read.
use Rattle.std.proofs.Common.{◌≡◌, ℕ, ◌^◌, ◌≤◌, true, false, ◌&&◌, List, [], ◌∷◌, length, drop, sym, ap, ◌∙◌, None}
use Rattle.std.specs.Prelude.{nat_le}
use Rattle.std.proofs.lemmas.Bool.{and_left, and_right, and_from, le-leb}
use Rattle.mp_base.specs.Name.{is_name}
use Rattle.mp_base.specs.Ranges.{Rises}
use Rattle.mp_base.specs.declared.number.Group.{Group}
use Rattle.mp_base.specs.declared.range.GroupRange.{GroupRange}
use Rattle.group_set.specs.Groups.{Groups, holds}
use Rattle.group_set.specs.Ranges.{in_ranges}
use Rattle.group_set.proofs.Upto.{upto_back, upto_same, Rises-later}
use Rattle.vdev_tree.specs.declared.vdev.LeafVdev.{LeafVdev}
use Rattle.pool_config.specs.Flags.{recorded, is_recorded, state_in, marked_in}
use Rattle.pool_config.specs.Members.{Gathered, gathered, with_leaf}
use Rattle.pool_config.specs.Reading.{byte_in, number_in, text_in, log_in, from_device, from_flags, from_log, leaf_in}
use Rattle.pool_config.specs.Seen.{leaf_vdev, leaf_seen, ranges_of}
use Rattle.pool_config.specs.Taken.{IsTakenLeaf}
use Rattle.pool_config.specs.Validity.{rises, is_leaf_of}
use Rattle.pool_config.proofs.Gathering.{gathered_leaf}
use Rattle.pool_config.proofs.Suffixes.{same_leaf}
use Rattle.pool_config.proofs.Testing.{rises_from}

-- Where the log is none, or the name, no valid configuration has the leaf.

pub leaf_unlogged : (number : Group) (s rest : List ℕ) → rest ≡ from_log s
    → (nat_le (length (log_in rest).value) 4096 && rises 1 number.0 (log_in rest).value) ≡ false
    → is_leaf_of number (leaf_in s).value ≡ false
unfolding leaf_in
leaf_unlogged number s rest e bad =
    let here : (nat_le (length (log_in (from_log s)).value) 4096 && rises 1 number.0 (log_in (from_log s)).value)
    ≡ false =
    ap (λ t. nat_le (length (log_in t).value) 4096 && rises 1 number.0 (log_in t).value) (sym e) ∙ bad in
    and_right (is_name (leaf_in s).value.name) _ (and_right (is_recorded (leaf_in s).value.state) _ here)

pub leaf_unnamed : (number : Group) (s text : List ℕ) → text ≡ text_in (from_device s) → is_name text ≡ false
    → is_leaf_of number (leaf_in s).value ≡ false
unfolding leaf_in
leaf_unnamed number s text e bad = and_left (is_name (leaf_in s).value.name) _ (ap is_name (sym e) ∙ bad)

pub log_rises : (number : Group) (log : List GroupRange) → number.0 ≤ 2 ^ 62 → rises 1 number.0 log ≡ true
    → Rises 1 (2 ^ 62) log
log_rises number log last t = Rises-later 1 number.0 (2 ^ 62) log (rises_from 1 number.0 log t) last

-- a set of these ranges has them
pub ranges_back : (set : Groups) (ranges : List GroupRange) → Rises 1 (2 ^ 62) ranges
    → ((g : ℕ) → holds set g ≡ in_ranges ranges g) → ranges_of set ≡ ranges
unfolding ranges_of
ranges_back set ranges rises is =
    upto_same (holds set) (in_ranges ranges) (2 ^ 62) (λ g first last. is g) ∙ upto_back (2 ^ 62) ranges rises

-- what was read of a leaf, field by field
pub record IsLeafRead (number : Group) (s rest words end : List ℕ) (byte : ℕ) (ranges : List GroupRange)
    (before after : Gathered) (leaf : LeafVdev) : Type 0 where
  pub last : number.0 ≤ 2 ^ 62
  pub guid : leaf.guid.0 ≡ number_in (drop 1 s)
  pub text : words ≡ text_in (from_device s)
  pub flags : byte ≡ byte_in (from_flags s)
  pub at_log : rest ≡ from_log s
  pub name : leaf.name ≡ words
  pub named : is_name leaf.name ≡ true
  pub state : leaf.state ≡ state_in byte
  pub kept : recorded leaf.state false ≡ leaf.state
  pub one_kept : is_recorded leaf.state ≡ true
  pub temporary : leaf.temporary ≡ false
  pub marked : leaf.marked ≡ marked_in byte
  pub log : ranges ≡ (log_in rest).value
  pub groups : (g : ℕ) → holds leaf.log g ≡ in_ranges ranges g
  pub few : length ranges ≤ 4096
  pub rising : rises 1 number.0 ranges ≡ true
  pub stop : end ≡ (log_in rest).rest
  pub listed : after ≡ with_leaf before leaf.guid.0 leaf.name (length ranges)
  pub dev : leaf.dev ≡ None
  pub settled : (g : ℕ) → holds leaf.settled g ≡ false
  pub reads : leaf.counts.reads ≡ 0
  pub writes : leaf.counts.writes ≡ 0
  pub mismatches : leaf.counts.mismatches ≡ 0

leaf_log : (number : Group) (s rest words end : List ℕ) (byte : ℕ) (ranges : List GroupRange) (before after : Gathered)
    (leaf : LeafVdev)
    → IsLeafRead number s rest words end byte ranges before after leaf → ranges_of leaf.log ≡ ranges
leaf_log number s rest words end byte ranges before after leaf is =
    ranges_back leaf.log ranges (log_rises number ranges is.last is.rising) is.groups

leaf_same : (number : Group) (s rest words end : List ℕ) (byte : ℕ) (ranges : List GroupRange) (before after : Gathered)
    (leaf : LeafVdev)
    → IsLeafRead number s rest words end byte ranges before after leaf → leaf_seen leaf ≡ (leaf_in s).value
unfolding leaf_in
leaf_same number s rest words end byte ranges before after leaf is =
    same_leaf _ _ _ _ _ _ _ _ _ _ is.guid (is.name ∙ is.text)
    (ap (recorded leaf.state) is.temporary ∙ is.kept ∙ is.state ∙ ap state_in is.flags)
    (is.marked ∙ ap marked_in is.flags)
    (leaf_log number s rest words end byte ranges before after leaf is ∙ is.log ∙ ap (λ t. (log_in t).value) is.at_log)

leaf_end : (s rest end : List ℕ) → rest ≡ from_log s → end ≡ (log_in rest).rest → end ≡ (leaf_in s).rest
unfolding leaf_in
leaf_end s rest end e f = f ∙ ap (λ t. (log_in t).rest) e

pub leaf_taken : (number : Group) (s rest words end : List ℕ) (byte : ℕ) (ranges : List GroupRange)
    (before after : Gathered) (leaf : LeafVdev)
    → IsLeafRead number s rest words end byte ranges before after leaf
    → IsTakenLeaf number (leaf_in s) end before after leaf
leaf_taken number s rest words end byte ranges before after leaf is =
    let same = leaf_same number s rest words end byte ranges before after leaf is in
    let log = leaf_log number s rest words end byte ranges before after leaf is in
    let state : recorded leaf.state leaf.temporary ≡ leaf.state = ap (recorded leaf.state) is.temporary ∙ is.kept in
    record {
      leaf = same;
      rest = leaf_end s rest end is.at_log is.stop;
      gathered = is.listed ∙ ap (λ (r : List GroupRange). with_leaf before leaf.guid.0 leaf.name (length r)) (sym log)
          ∙ gathered_leaf before (leaf_seen leaf)
          ∙ ap (λ l. gathered before (leaf_vdev l ∷ [])) same;
      stands = ap (is_leaf_of number) (sym same)
          ∙ and_from (is_name leaf.name) _ is.named
          (and_from (is_recorded (recorded leaf.state leaf.temporary)) _ (ap is_recorded state ∙ is.one_kept)
          (ap (λ (r : List GroupRange). nat_le (length r) 4096 && rises 1 number.0 r) log
          ∙ and_from (nat_le (length ranges) 4096) _ (le-leb _ _ is.few) is.rising));
      recorded = record {
        state = is.kept;
        temporary = is.temporary;
        dev = is.dev;
        settled = is.settled;
        reads = is.reads;
        writes = is.writes;
        mismatches = is.mismatches;
      };
    }
