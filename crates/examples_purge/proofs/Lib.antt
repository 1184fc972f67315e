pub mod PurgeCalls
