-- How an `online` ends by the counts of failed calls.
use Rattle.std.proofs.Common.{◌≡◌, ◌⊎◌, ℕ, ◌+◌, nat_le, Bool, true, false, List, [], ◌∷◌, Option, Some, None, Result, Ok, Err, refl, sym, ap, ◌∙◌, subst, inl, inr}
use Rattle.mp_base.specs.declared.number.Guid.{Guid}
use Rattle.mp_base.specs.declared.refusal.Refusal.{Refusal}
use Rattle.mp_base.specs.declared.refusal.Refusal.TheVariants as refusals
use Rattle.bank_core.specs.declared.bank.Fault.{Fault}
use Rattle.bank_core.specs.Calls.{AllCaused, fault_of}
use Rattle.bank_core.specs.Disk.{Noted}
use Rattle.label_store.specs.Identities.{AreMisses, IsSearch, fault_or, first_fault, rings_of}
use Rattle.vdev_tree.specs.declared.vdev.State.{State}
use Rattle.vdev_tree.specs.declared.vdev.State.TheVariants as states
use Rattle.pool_wire.specs.declared.reply.Reply.{Reply}
use Rattle.pool_wire.specs.declared.reply.Reply.TheVariants as replies
use Rattle.pool_wire.specs.declared.request.Request.{Request}
use Rattle.pool_wire.specs.declared.request.Request.TheVariants as requests
use Rattle.pool_core.specs.Away.{OnlinesLeaf, is_away, leaf_named, online_answer}
use Rattle.pool_core.specs.State.{LeafState, PoolState, leaves}
use Rattle.host_machine.specs.Answering.{OnlinesByCounts, SomeFailed}
use Rattle.host_machine.specs.Devices.{number_in}
use Rattle.host_machine.specs.Machine.{HostState, Entry, Step, IsAnswered, WantsMemory, Clashes, OnlinesIn, OnlinesNamed, OnlinesOn, named_pool, online_reply}
use Rattle.host_machine.proofs.AwayLines.{leaf_name}
use Rattle.host_machine.proofs.Rising.{AllFine, dev_asked, device_asked, failed_rose, fine_still}
use Rattle.host_machine.proofs.Settling.{same_some}

none_fault : (fault : Fault) → None ≡ Some fault → ⊥
none_fault fault e = cc

fault_none : (fault : Fault) → Some fault ≡ None → ⊥
fault_none fault e = cc

-- a search with a fault has a call on the device that failed
misses_failed : (pool member : Guid) (dev : ℕ) (rings : List ℕ) (made : List Noted) (fault : Fault) → AreMisses pool member dev rings made → first_fault made ≡ Some fault → SomeFailed dev made
misses_failed pool member dev [] made fault misses e = absurd (none_fault fault (sym (ap first_fault misses) ∙ e))
misses_failed pool member dev (at ∷ rings) [] fault misses e = absurd misses
misses_failed pool member dev (at ∷ rings) (noted ∷ made) fault misses e = by (misses_failed pool member dev rings made fault misses.2) (fault_of noted.call) refl e
  where
    by : (first_fault made ≡ Some fault → SomeFailed dev made) → (f : Option Fault) → fault_of noted.call ≡ f → fault_or f (first_fault made) ≡ Some fault → SomeFailed dev (noted ∷ made)
    by more (Some here) is e = inl (device_asked noted.call ∙ ap dev_asked misses.0, here, is)
    by more None is e = inr (more e)

-- and in one without a fault no call failed
all_fine : (made : List Noted) → first_fault made ≡ None → AllFine made
all_fine [] e = tt
all_fine (noted ∷ made) e = by (all_fine made) (fault_of noted.call) refl e
  where
    by : (first_fault made ≡ None → AllFine made) → (f : Option Fault) → fault_of noted.call ≡ f → fault_or f (first_fault made) ≡ None → AllFine (noted ∷ made)
    by more None is e = (is, more e)
    by more (Some fault) is e = absurd (fault_none fault e)

-- the replies differ
state_fault : (state : State) (name : List ℕ) (reply : Reply) → reply ≡ replies.State state → reply ≡ replies.DeviceFault name → ⊥
state_fault state name reply e f = cc

state_label : (state : State) (name : List ℕ) (reply : Reply) → reply ≡ replies.State state → reply ≡ replies.WrongLabel name → ⊥
state_label state name reply e f = cc

refused_fault : (refusal : Refusal) (name : List ℕ) (reply : Reply) → reply ≡ replies.Refused refusal → reply ≡ replies.DeviceFault name → ⊥
refused_fault refusal name reply e f = cc

refused_label : (refusal : Refusal) (name : List ℕ) (reply : Reply) → reply ≡ replies.Refused refusal → reply ≡ replies.WrongLabel name → ⊥
refused_label refusal name reply e f = cc

label_fault : (one name : List ℕ) (reply : Reply) → reply ≡ replies.WrongLabel one → reply ≡ replies.DeviceFault name → ⊥
label_fault one name reply e f = cc

none_number : (dev : ℕ) → None ≡ Some dev → ⊥
none_number dev e = cc

read_online : (read : List ℕ) (a : ℕ) (name device : List ℕ) (asked : Option Request) → asked ≡ Some (requests.Read read a) → asked ≡ Some (requests.Online name device) → ⊥
read_online read a name device asked e f = cc

module _ (made : List Noted) (f g : ℕ → ℕ) (reply : Reply) (caused : AllCaused made f g) where
  told_state : (dev : ℕ) (state : State) → reply ≡ replies.State state → OnlinesByCounts dev f g reply
  told_state dev state e = record { cause = λ name is. absurd (state_fault state name reply e is); calm = λ name is. absurd (state_label state name reply e is) }

  told_refused : (dev : ℕ) (refusal : Refusal) → reply ≡ replies.Refused refusal → OnlinesByCounts dev f g reply
  told_refused dev refusal e = record { cause = λ name is. absurd (refused_fault refusal name reply e is); calm = λ name is. absurd (refused_label refusal name reply e is) }

  search_counts : (size : ℕ) (s : PoolState) (leaf : LeafState) (dev : ℕ) (left : PoolState) (result : Result State Refusal) (r : Result Bool Fault)
      → IsSearch s.pool leaf.member dev size made r → ((left, result) ≡ online_answer s leaf dev r) → reply ≡ online_reply leaf result → OnlinesByCounts dev f g reply
  search_counts size s leaf dev left result (Ok true) search e said = told_state dev states.Online (said ∙ ap (λ (x : PoolState × Result State Refusal). online_reply leaf x.1) e)
  search_counts size s leaf dev left result (Ok false) search e said =
      let is : reply ≡ replies.WrongLabel leaf.name = said ∙ ap (λ (x : PoolState × Result State Refusal). online_reply leaf x.1) e in
      record { cause = λ name other. absurd (label_fault leaf.name name reply is other); calm = λ name other. fine_still made f g (all_fine made search.1) caused }
  search_counts size s leaf dev left result (Err fault) search e said =
      let is : reply ≡ replies.DeviceFault leaf.name = said ∙ ap (λ (x : PoolState × Result State Refusal). online_reply leaf x.1) e in
      record {
        cause = λ name other. failed_rose made dev f g (misses_failed s.pool leaf.member dev (rings_of size) made fault search.0 search.1) caused;
        calm = λ name other. absurd (label_fault name leaf.name reply other is);
      }

  leaf_counts : (size : ℕ → ℕ) (s : PoolState) (leaf : LeafState) (dev : ℕ) (left : PoolState) (result : Result State Refusal) → OnlinesLeaf size s leaf dev made left result
      → reply ≡ online_reply leaf result → OnlinesByCounts dev f g reply
  leaf_counts size s leaf dev left result is said = by (is_away leaf.state) (nat_le (s.sectors + 256) (size dev)) refl refl
    where
      by : (away has_room : Bool) → is_away leaf.state ≡ away → nat_le (s.sectors + 256) (size dev) ≡ has_room → OnlinesByCounts dev f g reply
      by false has_room e t = let h = rw e at is in told_state dev leaf.state (said ∙ ap (online_reply leaf) h.2)
      by true false e t = let h = rw t at (rw e at is) in told_refused dev (refusals.TooSmall (s.sectors + 256) (size dev)) (said ∙ ap (online_reply leaf) h.2)
      by true true e t = let h = rw t at (rw e at is) in search_counts (size dev) s leaf dev left result h.0 h.1 h.2 said

  on_counts : (h next : HostState) (s : PoolState) (leaf : LeafState) (number : Option ℕ) (dev : ℕ) → number ≡ Some dev → OnlinesOn h s leaf number made next reply → OnlinesByCounts dev f g reply
  on_counts h next s leaf None dev e onlines = absurd (none_number dev e)
  on_counts h next s leaf (Some d) dev e (left, result, onlines, next_is, said) =
      subst (λ x. OnlinesByCounts x f g reply) (same_some d dev e) (leaf_counts h.size s leaf d left result onlines said)

  named_counts : (h next : HostState) (s : PoolState) (device : List ℕ) (found : Option LeafState) (dev : ℕ) → leaf_named device (leaves s) ≡ found → number_in device h.table ≡ Some dev
      → OnlinesNamed h s found made next reply → OnlinesByCounts dev f g reply
  named_counts h next s device None dev e number quiet = told_refused dev refusals.NoVdev (ap (λ (x : HostState × Reply). x.1) quiet.1)
  named_counts h next s device (Some leaf) dev e number onlines =
      on_counts h next s leaf (number_in leaf.name h.table) dev (ap (λ name. number_in name h.table) (leaf_name s device leaf e) ∙ number) onlines

  in_counts : (h next : HostState) (pool : Option PoolState) (device : List ℕ) (dev : ℕ) → number_in device h.table ≡ Some dev → OnlinesIn h pool device made next reply
      → OnlinesByCounts dev f g reply
  in_counts h next None device dev number quiet = told_refused dev refusals.NoPool (ap (λ (x : HostState × Reply). x.1) quiet.1)
  in_counts h next (Some s) device dev number onlines = named_counts h next s device (leaf_named device (leaves s)) dev refl number onlines

pub online_counts : (h : HostState) (entry : Entry) (made : List Noted) (next : HostState) (name device : List ℕ) (dev : ℕ) (f g : ℕ → ℕ) → Step h entry made next
    → entry.asked ≡ Some (requests.Online name device) → number_in device h.table ≡ Some dev → AllCaused made f g → OnlinesByCounts dev f g entry.reply
online_counts h entry made next name device dev f g step asked number caused = by step.step
  where
    by : IsAnswered h entry.asked entry made next ⊎ (WantsMemory h entry made next ⊎ Clashes h entry made next) → OnlinesByCounts dev f g entry.reply
    by (inl is) = in_counts made f g entry.reply caused h next (named_pool name h.pool) device dev number (subst (λ q. IsAnswered h q entry made next) asked is)
    by (inr (inl memory)) = told_refused made f g entry.reply caused dev refusals.Memory memory.reply
    by (inr (inr clashes)) = absurd (read_online clashes.name clashes.a name device entry.asked clashes.asked asked)
