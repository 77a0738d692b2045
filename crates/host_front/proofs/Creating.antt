-- The devices of a new pool, and its making.
use Rattle.std.proofs.Common.{◌≡◌, ◌≢◌, ℕ, suc, ◌<◌, ◌≤◌, Bool, true, false, cond, List, [], ◌∷◌, Option, Some, None, length, drop, get_or, refl, sym, ◌∙◌, ap, subst, drop-cons, nat_le, inl, inr, ◌⊎◌, bytes_eq}
use Rattle.std.proofs.lemmas.Bool.{leb-true}
use Rattle.std.proofs.lemmas.Slice.Eq.{bytes_eq-Decides}
use Rattle.bank_core.specs.Story.{Story}
use Rattle.mp_base.specs.declared.number.Guid.{Guid}
use Rattle.mp_base.specs.declared.refusal.Refusal.TheVariants as refusals
use Rattle.label_store.specs.Newest.{AreReads}
use Rattle.pool_wire.specs.declared.reply.Reply.{Reply}
use Rattle.pool_wire.specs.declared.reply.Reply.TheVariants as replies
use Rattle.pool_wire.specs.declared.request.Request.TheVariants as requests
use Rattle.pool_core.specs.declared.create.NewLeaf.{NewLeaf}
use Rattle.pool_core.specs.declared.pool.Pool.{Pool}
use Rattle.pool_core.specs.Commits.{AreMade}
use Rattle.pool_core.specs.Keeping.{Represents}
use Rattle.pool_core.specs.Making.{Creates, made_state, pool_number}
use Rattle.pool_core.specs.State.{LeafState, PoolState}
use Rattle.host_machine.specs.declared.device.HostDevice.{HostDevice}
use Rattle.host_machine.specs.Devices.{handed, usable, member_of, number_in, AreApart}
use Rattle.host_machine.specs.Fitness.{AreSized}
use Rattle.host_machine.specs.Machine.{HostState, IsAnswered, WantsMemory, Clashes, create_outcome, is_bad_size, new_seats, new_state}
use Rattle.host_machine.specs.Records.{with_record}
use Rattle.host_front.specs.declared.host.Host.{Host}
use Rattle.host_front.specs.Making.{AreTwoSeats, MakesPool}
use Rattle.host_front.specs.Session.{Answers}
use Rattle.host_front.specs.Standing.{Keeps, PoolStands}
use Rattle.host_front.proofs.Answering.{answers_by, entry_of, same_sizes, sizes_on}

no_number : (dev : ℕ) → None ≡ Some dev → ⊥
no_number dev e = cc

-- the first device of the name
pub member_here : (name : List ℕ) (table : List HostDevice) (i : ℕ) (device : HostDevice) → i < length table → device ≡ get_or table i device
    → true ≡ bytes_eq device.name name → member_of name (drop i table) ≡ member_of name table → usable device ≡ member_of name table
member_here name table i device inside is test from =
    sym (ap (member_of name) (drop-cons table i device inside) ∙ ap (λ d. member_of name (d ∷ drop (suc i) table)) (sym is) ∙ found) ∙ from
  where
    found : member_of name (device ∷ drop (suc i) table) ≡ usable device
    found = rw (← test) refl

-- a device that is handed was found, and has the labels' room
handed_cases : (device : HostDevice) (dev : ℕ) (t : Bool) → nat_le 320 device.sectors ≡ t → cond t device.dev None ≡ Some dev
    → (device.dev ≡ Some dev) × (320 ≤ device.sectors)
handed_cases device dev true test is = (is, leb-true 320 device.sectors test)
handed_cases device dev false test is = absurd (no_number dev is)

pub handed_is : (device : HostDevice) (dev : ℕ) → handed device ≡ Some dev → (device.dev ≡ Some dev) × (320 ≤ device.sectors)
handed_is device dev is = handed_cases device dev (nat_le 320 device.sectors) refl is

usable_cases : (device : HostDevice) (dev : ℕ) (t : Bool) → cond t None (handed device) ≡ Some dev → handed device ≡ Some dev
usable_cases device dev true is = absurd (no_number dev is)
usable_cases device dev false is = is

usable_is : (device : HostDevice) (dev : ℕ) → usable device ≡ Some dev → (device.dev ≡ Some dev) × (320 ≤ device.sectors)
usable_is device dev is = handed_is device dev (usable_cases device dev device.spare is)

-- a member is the device that was found under its name, and has the labels' room
pub record IsRoomy (size : ℕ → ℕ) (name : List ℕ) (table : List HostDevice) (dev : ℕ) : Type 0 where
  pub number : number_in name table ≡ Some dev
  pub room : 320 ≤ size dev

member_cases : (size : ℕ → ℕ) (name : List ℕ) (device : HostDevice) (table : List HostDevice) (dev : ℕ) (t : Bool) → bytes_eq device.name name ≡ t
    → ((n : ℕ) → device.dev ≡ Some n → size n ≡ device.sectors) → (member_of name table ≡ Some dev → IsRoomy size name table dev)
    → cond t (usable device) (member_of name table) ≡ Some dev → IsRoomy size name (device ∷ table) dev
member_cases size name device table dev true test sized more is =
    let u = usable_is device dev is in
    record { number = rw test u.0; room = rw (sized dev u.0) u.1 }
member_cases size name device table dev false test sized more is =
    let m = more is in
    record { number = rw test m.number; room = m.room }

pub member_roomy : (size : ℕ → ℕ) (name : List ℕ) (table : List HostDevice) (dev : ℕ) → AreSized size table → member_of name table ≡ Some dev → IsRoomy size name table dev
member_roomy size name [] dev sized is = absurd (no_number dev is)
member_roomy size name (device ∷ table) dev sized is =
    member_cases size name device table dev (bytes_eq device.name name) refl sized.0 (λ found. member_roomy size name table dev sized.1 found) is

pub two_numbers : (table : List HostDevice) (first second : List ℕ) (dev other : ℕ) → AreApart table → first ≢ second → number_in first table ≡ Some dev
    → number_in second table ≡ Some other → dev ≢ other
two_numbers table first second dev other apart differ one two same = differ (apart.by first second dev one (two ∙ ap Some (sym same)))

pub two_members : (size : ℕ → ℕ) (table : List HostDevice) (first second : List ℕ) (dev other : ℕ) → AreSized size table → AreApart table → bytes_eq first second ≡ false
    → Some dev ≡ member_of first table → Some other ≡ member_of second table → AreTwoSeats size first second dev other
two_members size table first second dev other sized apart differ one two =
    let a = member_roomy size first table dev sized (sym one) in
    let b = member_roomy size second table other sized (sym two) in
    let names : first ≢ second = λ same. cc_bool (sym differ ∙ (bytes_eq-Decides first second).1 same) in
    record {
      two_names = names;
      two_devices = two_numbers table first second dev other apart names a.number b.number;
      first_room = a.room;
      second_room = b.room;
    }
  where
    cc_bool : false ≡ true → ⊥
    cc_bool e = cc

-- the state behind the making of a pool, which is open
abbrev opened_by : HostState → PoolState → HostState
opened_by h s = record h { records = with_record s h.records; pool = Some s }

abbrev failed_by : HostState → PoolState → HostState
failed_by h s = record h { records = with_record s h.records }

module _ (old new : Option Story) (f g : ℕ → ℕ) (size size' : ℕ → ℕ) (still : (d : ℕ) → size' d ≡ size d) (h : HostState) (s : PoolState) (seats : ℕ × ℕ) where
  made_on : (host : Host) → Keeps size host h → (failed : Option LeafState) (c : Creates size s seats old new f g failed) → AreMade h.size s seats c.made failed
  made_on host keeps failed c = subst (λ at. AreMade at s seats c.made failed) (sym (same_sizes h.size size keeps.sizes)) c.are_made

  -- it was made
  pub pool_made : (host host' : Host) (pool : Pool) → Keeps size host h → host'.table.items ≡ host.table.items → host'.pool ≡ Some pool
      → Creates size s seats old new f g None → Represents pool s → MakesPool h s seats old new f g size' host' (replies.Committed (record { 0 = 1 }))
  pool_made host host' pool keeps table is c represents = record {
    made = c.made;
    next = opened_by h s;
    calls = c.calls;
    keeps = record {
      table = keeps.table ∙ sym table;
      sizes = sizes_on h.size size size' keeps.sizes still;
      pool = subst (λ p. PoolStands p (Some s)) (sym is) represents;
    };
    step = inl (None, made_on host keeps None c, refl);
  }

  -- a device failed
  pub pool_failed : (host : Host) (name : List ℕ) → Keeps size host h → (leaf : LeafState) × (leaf.name ≡ name) × Creates size s seats old new f g (Some leaf)
      → MakesPool h s seats old new f g size' host (replies.DeviceFault name)
  pool_failed host name keeps c = record {
    made = c.2.made;
    next = failed_by h s;
    calls = c.2.calls;
    keeps = record { table = keeps.table; sizes = sizes_on h.size size size' keeps.sizes still; pool = keeps.pool };
    step = inl (Some c.0, made_on host keeps (Some c.0) c.2, ap (λ n. (failed_by h s, replies.DeviceFault n)) (sym c.1));
  }

-- the line, by the making of its pool
pub answers_create : {host host' : Host} {old new : Option Story} {f g size' : ℕ → ℕ} {reply : Reply} (size : ℕ → ℕ) (h : HostState) (name : List ℕ) (blocks : ℕ) (first second : List ℕ) (dev other time : ℕ)
    → Keeps size host h → is_bad_size blocks ≡ false → Some (dev, other) ≡ new_seats h blocks first second
    → MakesPool h (made_state size name (pool_number name time) blocks (first, dev) (second, other)) (dev, other) old new f g size' host' reply
    → Answers h (Some (requests.Create name blocks first second)) time old new f g size' host' reply
answers_create {host} {host'} {old} {new} {f} {g} {size'} {reply} size h name blocks first second dev other time keeps good seats m =
    answers_by h m.next (Some (requests.Create name blocks first second)) time m.made m.calls m.keeps (steps m.step)
  where
    s : PoolState
    s = made_state size name (pool_number name time) blocks (first, dev) (second, other)

    same : s ≡ new_state h time name blocks first second (dev, other)
    same = ap (λ at. made_state at name (pool_number name time) blocks (first, dev) (second, other)) (sym (same_sizes h.size size keeps.sizes))

    steps : ((failed : Option LeafState) × AreMade h.size s (dev, other) m.made failed × ((m.next, reply) ≡ create_outcome h s failed))
        ⊎ ((reply ≡ replies.Refused refusals.Memory) × (m.next ≡ h) × (m.made ≡ []))
        → IsAnswered h (Some (requests.Create name blocks first second)) (entry_of h (Some (requests.Create name blocks first second)) time m.made reply) m.made m.next
        ⊎ (WantsMemory h (entry_of h (Some (requests.Create name blocks first second)) time m.made reply) m.made m.next
        ⊎ Clashes h (entry_of h (Some (requests.Create name blocks first second)) time m.made reply) m.made m.next)
    steps (inl done) = inl (rw (good, ← seats) (
      done.0,
      subst (λ state. AreMade h.size state (dev, other) m.made done.0) same done.1,
      done.2 ∙ ap (λ state. create_outcome h state done.0) same,
    ))
    steps (inr memory) = inr (inl (record { reply = memory.0; same = memory.1; reads = subst AreReads (sym memory.2) tt }))

-- the parts of a new pool are the names that the line gave, with their devices
module _ (copy name : List ℕ) (a b : NewLeaf) (first second : List ℕ) (dev other : ℕ)
    (parts : ◌≡◌ {A = List ℕ × NewLeaf × NewLeaf} (copy, a, b) (name, record { name = first; dev = dev }, record { name = second; dev = other })) where
  pub parts_seated : (size : ℕ → ℕ) → AreTwoSeats size first second dev other → AreTwoSeats size a.name b.name a.dev b.dev
  parts_seated size seats = subst (λ (p : List ℕ × NewLeaf × NewLeaf). AreTwoSeats size p.1.name p.2.name p.1.dev p.2.dev) (sym parts) seats

  pub parts_made : {host : Host} {old new : Option Story} {f g size' : ℕ → ℕ} {reply : Reply} (size : ℕ → ℕ) (h : HostState) (blocks time : ℕ) (number : Guid) → number ≡ pool_number name time
      → MakesPool h (made_state size copy number blocks (a.name, a.dev) (b.name, b.dev)) (a.dev, b.dev) old new f g size' host reply
      → MakesPool h (made_state size name (pool_number name time) blocks (first, dev) (second, other)) (dev, other) old new f g size' host reply
  parts_made {host} {old} {new} {f} {g} {size'} {reply} size h blocks time number is m =
      subst (λ n. MakesPool h (made_state size name n blocks (first, dev) (second, other)) (dev, other) old new f g size' host reply) is
      (subst (λ (p : List ℕ × NewLeaf × NewLeaf). MakesPool h (made_state size p.0 number blocks (p.1.name, p.1.dev) (p.2.name, p.2.dev)) (p.1.dev, p.2.dev) old new f g size' host reply) parts m)
