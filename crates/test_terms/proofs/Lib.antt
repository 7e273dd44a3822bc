mod Groups
